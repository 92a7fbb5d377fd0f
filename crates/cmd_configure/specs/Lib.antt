pub mod Configures
pub mod Ended
