pub mod Traces
pub mod Apart
