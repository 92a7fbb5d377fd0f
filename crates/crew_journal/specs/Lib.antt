pub mod Book
pub mod Texts
pub mod Journal
