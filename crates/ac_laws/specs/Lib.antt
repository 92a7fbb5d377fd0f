pub mod Signs
pub mod Position
pub mod OutputList
pub mod Room
pub mod Idle
pub mod Holding
