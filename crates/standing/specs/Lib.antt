pub mod Calls
pub mod Placings
pub mod Shown
pub mod Standing
