pub mod Bits
pub mod Strips
pub mod Counting
pub mod Runs
pub mod Finding
