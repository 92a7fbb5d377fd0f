pub mod Clearing
pub mod Known
pub mod Regular
