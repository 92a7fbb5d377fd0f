pub mod Ends
pub mod Filters
pub mod Puts
pub mod Refusals
pub mod Tools
