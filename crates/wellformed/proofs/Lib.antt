pub mod Checked
pub mod Loops
