pub mod Flat
pub mod Games
