mod Versions
pub mod Remakes
mod Rechecks
mod Caches
pub mod Judgements
