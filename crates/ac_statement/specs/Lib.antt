pub mod Fault
pub mod Reading
pub mod Texts
pub mod Idle
pub mod Inside
pub mod Standing
pub mod Stand
pub mod FaultText
