pub mod Found
pub mod Indexed
