pub mod Headed
pub mod Asked
pub mod Read
pub mod Examined
