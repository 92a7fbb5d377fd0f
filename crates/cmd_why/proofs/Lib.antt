mod Ends
mod Explained
mod Nearness
mod Records
mod Saying
