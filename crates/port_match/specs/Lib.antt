pub mod Matcher
pub mod Matches
