pub mod Cases
pub mod Done
pub mod Ends
pub mod Supplied
