pub mod Along
pub mod Chained
pub mod Others
pub mod Steps
