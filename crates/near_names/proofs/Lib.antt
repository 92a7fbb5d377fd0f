mod Distances
mod Nearest
