pub mod Differing
pub mod Puts
