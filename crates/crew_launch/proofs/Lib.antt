mod Calls
pub mod ChildLemmas
mod Explaining
mod Freeing
mod Naming
mod Owning
mod OwnNames
mod Queue
mod Spoilt
