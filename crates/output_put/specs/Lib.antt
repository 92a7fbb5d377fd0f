pub mod Kept
pub mod Receipt
