pub mod Near
pub mod Names
pub mod Runs
mod Liking
mod CommandLiking
mod Forms
mod Parts
mod Single
mod Programs
mod Batched
mod BatchPart
mod Statements
mod Rounds
pub mod Whole
mod Shares
mod EachShare
mod OfTests
mod TheirJobs
mod Renamed
mod Unasked
mod Counter
mod Example
mod WholeRuns
mod Pouring
