pub mod Happened
pub mod Left
pub mod LeftAgain
pub mod Printed
pub mod Reasons
pub mod MadeAgain
pub mod Unmade
