pub mod Products
pub mod Choosing
pub mod Answers
pub mod Theorems
