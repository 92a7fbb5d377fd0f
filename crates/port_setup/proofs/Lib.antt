pub mod Below
pub mod Each
pub mod Made
pub mod Steps
