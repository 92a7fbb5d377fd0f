pub mod Around
pub mod Entries
pub mod Filling
pub mod Index
pub mod Members
pub mod Places
pub mod Values
