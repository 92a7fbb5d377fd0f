pub mod Ifs
pub mod Cases
pub mod Guards
pub mod Loops
pub mod Defaults
