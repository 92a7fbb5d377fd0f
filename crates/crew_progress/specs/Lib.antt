pub mod Child
pub mod Progress
pub mod Screen
pub mod Subject
pub mod Watch
