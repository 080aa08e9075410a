pub mod Saying
pub mod Theorems
pub mod Hits
pub mod BookLaws
pub mod GameLaws
