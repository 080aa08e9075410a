pub mod Left
pub mod Growing
pub mod Heads
