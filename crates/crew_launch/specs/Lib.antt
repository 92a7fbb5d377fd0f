pub mod Ending
pub mod Fresh
pub mod Launch
pub mod Own
pub mod Piped
pub mod Reasons
