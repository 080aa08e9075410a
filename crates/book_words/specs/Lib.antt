pub mod Settings
pub mod Read
pub mod Written
