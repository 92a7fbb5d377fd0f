pub mod Places
pub mod Courses
pub mod Named
