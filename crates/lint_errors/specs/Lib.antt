pub mod Errors
pub mod Readings
