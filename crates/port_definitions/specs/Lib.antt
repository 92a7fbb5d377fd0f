pub mod Defined
pub mod Unused
