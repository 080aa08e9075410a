pub mod World
pub mod Loops
pub mod Moving
pub mod Judging
