mod Joins
mod Plain
