pub mod Choice
pub mod Below
pub mod Lists
pub mod Products
pub mod Search
pub mod Equal
pub mod Written
