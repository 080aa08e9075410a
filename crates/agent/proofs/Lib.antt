pub mod Sizes
pub mod Gates
pub mod Theorems
