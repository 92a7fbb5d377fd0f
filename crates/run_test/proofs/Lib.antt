pub mod Places
pub mod Rows
pub mod Ends
pub mod Starts
pub mod Follows
pub mod PathParts
pub mod Flows
