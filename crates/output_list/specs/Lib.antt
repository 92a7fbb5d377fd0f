pub mod Output
pub mod Path
