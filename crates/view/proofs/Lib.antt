pub mod Turning
pub mod Marks
pub mod Shown
pub mod Gates
pub mod Theorems
