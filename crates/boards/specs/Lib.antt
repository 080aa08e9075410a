pub mod Free
pub mod Boards
