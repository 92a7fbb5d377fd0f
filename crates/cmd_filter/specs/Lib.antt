pub mod Faults
pub mod Ran
pub mod Handed
pub mod Filtered
pub mod FaultText
