pub mod Pieces
pub mod Words
pub mod Lines
pub mod SlashLemmas
pub mod Turns
pub mod SourceDirectories
pub mod Cuttings
pub mod Keepings
