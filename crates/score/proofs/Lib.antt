pub mod Sorting
pub mod Keys
pub mod Sums
