pub mod Opens
pub mod Ends
pub mod Follows
pub mod Founds
pub mod Clear
pub mod Positions
pub mod Listed
pub mod Counted
mod Idles
mod Holdings
mod Helps
