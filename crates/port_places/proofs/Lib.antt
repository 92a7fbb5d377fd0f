mod Reached
mod Rows
