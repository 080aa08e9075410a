pub mod Loops
pub mod Moving
pub mod Judging
