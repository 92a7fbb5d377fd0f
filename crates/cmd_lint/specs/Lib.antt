pub mod Colours
pub mod Refusals
pub mod Status
