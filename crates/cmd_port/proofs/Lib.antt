pub mod Left
pub mod Saying
pub mod Steps
pub mod Written
pub mod Putting
