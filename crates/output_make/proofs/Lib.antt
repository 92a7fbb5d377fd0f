mod Choices
mod Lookups
mod Outputs
mod Turns
