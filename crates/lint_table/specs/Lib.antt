pub mod Differences
pub mod Lefts
pub mod Filling
pub mod Keys
