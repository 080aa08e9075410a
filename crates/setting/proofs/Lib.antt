pub mod Halves
pub mod Written
pub mod Starting
