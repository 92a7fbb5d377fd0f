pub mod Calls
pub mod Second
pub mod Law
