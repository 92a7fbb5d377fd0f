pub mod Unrecognized
pub mod Opening
pub mod Reading
pub mod Precious
pub mod Stepwise
pub mod HelpText
pub mod FaultText
