pub mod Rowed
mod Runs
