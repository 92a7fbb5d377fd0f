pub mod Apart
mod OneJob
mod TwoReadings
mod Taken
