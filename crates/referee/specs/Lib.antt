pub mod Match
pub mod Run
