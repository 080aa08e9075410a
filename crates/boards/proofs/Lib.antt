pub mod Free
pub mod Boards
pub mod Squares
