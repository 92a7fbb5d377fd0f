pub mod Broken
pub mod Walk
pub mod Inside
pub mod Weight
pub mod Code
pub mod Names
pub mod Defined
pub mod FaultText
