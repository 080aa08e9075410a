mod Left
mod Words
mod Turns
mod Room
mod Link
mod Follows
pub mod Refusals
