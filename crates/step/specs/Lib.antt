pub mod Eaten
pub mod Next
pub mod Applied
pub mod Asked
