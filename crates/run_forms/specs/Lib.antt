pub mod Courses
pub mod Attempts
pub mod Ends
pub mod Laws
