pub mod Asking
pub mod Shortages
