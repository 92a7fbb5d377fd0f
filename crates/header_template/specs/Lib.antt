pub mod Mentions
pub mod Notes
pub mod Pages
pub mod Table
