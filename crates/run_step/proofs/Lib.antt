pub mod Steps
pub mod Waiting
pub mod Committing
pub mod Turns
pub mod Beginnings
