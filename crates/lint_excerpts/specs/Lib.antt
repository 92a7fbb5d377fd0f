pub mod Plain
pub mod Json
