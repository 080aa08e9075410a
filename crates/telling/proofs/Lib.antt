pub mod Saying
pub mod Lying
