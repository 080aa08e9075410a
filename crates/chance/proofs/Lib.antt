pub mod Bounds
pub mod Horner
pub mod NextImage
pub mod Drawing
pub mod Saying
