pub mod Bare
pub mod Asked
pub mod Profile
pub mod Statements
pub mod Breaks
pub mod Source
