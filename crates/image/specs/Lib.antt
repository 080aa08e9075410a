pub mod Records
pub mod Memory
