pub mod Matches
pub mod Read
pub mod Told
pub mod Theorems
pub mod Words
