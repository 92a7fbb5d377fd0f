mod Ends
pub mod Found
pub mod Laid
pub mod Order
mod Turns
