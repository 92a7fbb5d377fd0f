pub mod Counted
pub mod Line
pub mod Tallies
