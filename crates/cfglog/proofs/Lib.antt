pub mod Marks
mod OneLine
mod Programs
mod Readings
