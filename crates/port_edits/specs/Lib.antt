pub mod Edits
pub mod Passes
