pub mod Walks
pub mod Going
pub mod Laying
pub mod Apart
