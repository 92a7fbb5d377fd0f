pub mod Tries
pub mod Form
pub mod Macros
