pub mod After
pub mod Leads
