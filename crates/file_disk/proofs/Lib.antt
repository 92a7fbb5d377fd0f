pub mod Deeds
mod Front
