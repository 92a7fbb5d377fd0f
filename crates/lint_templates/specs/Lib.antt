pub mod Names
pub mod Given
pub mod Listed
pub mod Unlisted
pub mod Served
