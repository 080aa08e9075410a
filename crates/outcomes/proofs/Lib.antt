pub mod Picks
pub mod Radix
pub mod Marking
pub mod Checked
pub mod Rows
