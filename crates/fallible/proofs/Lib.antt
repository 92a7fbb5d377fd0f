pub mod Binds
pub mod Clauses
pub mod Pieces
