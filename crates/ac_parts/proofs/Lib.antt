mod Complete
pub mod Laws
mod Sound
pub mod Texts
pub mod Turns
