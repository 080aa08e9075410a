pub mod Numbers
pub mod Fields
pub mod Lines
pub mod Split
