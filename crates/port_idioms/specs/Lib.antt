pub mod Exact
pub mod Filled
pub mod Rows
