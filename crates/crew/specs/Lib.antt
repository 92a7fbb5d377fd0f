pub mod Child
pub mod Counting
pub mod Fused
pub mod Holding
pub mod Runs
pub mod Scripted
pub mod Sound
