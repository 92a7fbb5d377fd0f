pub mod Choice
pub mod Lookup
pub mod Making
pub mod Variables
