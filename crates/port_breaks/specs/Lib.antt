pub mod Breaks
