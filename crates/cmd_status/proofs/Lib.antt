pub mod Happenings
pub mod Reasons
pub mod Remakes
pub mod Unmade
