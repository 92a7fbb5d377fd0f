mod HereLines
mod Marking
mod Kept
pub mod Fronts
mod Places
mod Spelled
mod Rows
