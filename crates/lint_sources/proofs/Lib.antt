pub mod Lost
pub mod Numbered
pub mod Pages
pub mod Parts
pub mod Placed
pub mod Paths
pub mod Printed
pub mod Worded
