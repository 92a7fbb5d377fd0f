pub mod Saying
mod Single
pub mod Statuses
