mod Turns
mod Libraries
