pub mod Calls
pub mod Standing
