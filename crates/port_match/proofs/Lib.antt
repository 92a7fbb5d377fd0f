pub mod Laws
pub mod Rounds
mod Sound
