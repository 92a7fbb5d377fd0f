pub mod BarredLines
pub mod Meetings
