pub mod NameLists
pub mod Reading
pub mod Same
pub mod Steps
