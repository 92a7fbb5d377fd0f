pub mod Alone
pub mod Givens
pub mod Refusals
