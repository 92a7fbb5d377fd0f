pub mod Beside
mod Coherence
mod Guarded
mod Kept
mod Keyed
mod Leading
mod Modes
mod Placed
mod Puts
mod Readings
mod Reread
mod Shown
mod Slashes
pub mod Unused
mod Writings
pub mod Markers
