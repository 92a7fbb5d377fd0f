mod Becoming
pub mod Spelling
mod Asking
