pub mod Endings
pub mod Follows
pub mod Insides
pub mod Weights
pub mod Codes
pub mod Symbols
mod Defining
