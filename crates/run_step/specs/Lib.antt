pub mod Checks
pub mod Openings
pub mod Statements
pub mod Runs
pub mod Replies
pub mod Waiting
pub mod Taking
pub mod BatchRuns
