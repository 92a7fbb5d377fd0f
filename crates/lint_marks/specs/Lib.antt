pub mod Quotes
pub mod Delimiters
pub mod Heres
pub mod Nested
pub mod Nests
pub mod Marks
pub mod Fronts
