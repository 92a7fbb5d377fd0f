pub mod Starts
pub mod Serving
pub mod Ran
pub mod Progress
pub mod Agreeing
pub mod Outcomes
