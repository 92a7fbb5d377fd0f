pub mod Absent
pub mod Example
pub mod Flat
pub mod Tree
pub mod Rerun
pub mod Again
pub mod Package
