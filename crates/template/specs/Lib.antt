pub mod Fill
pub mod Header
pub mod Hops
pub mod Keys
pub mod Marks
pub mod Pieces
pub mod Place
