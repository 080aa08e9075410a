pub mod Fitting
pub mod Finding
pub mod Laying
pub mod Clear
pub mod Alone
pub mod Answers
