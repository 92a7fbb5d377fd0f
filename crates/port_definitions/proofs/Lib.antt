pub mod Begins
pub mod Made
pub mod Remarks
