pub mod UnitNumber
pub mod Orders
pub mod Calls
pub mod Promises
pub mod Chosen
