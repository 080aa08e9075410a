pub mod Taking
pub mod Printed
