pub mod Ends
pub mod Ports
pub mod Refusals
pub mod Words
