pub mod Behind
pub mod Showing
pub mod Tables
