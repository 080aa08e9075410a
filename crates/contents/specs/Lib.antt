pub mod Settings
pub mod Contents
pub mod Orders
pub mod Read
pub mod Accepted
pub mod Written
pub mod Calls
pub mod Promises
