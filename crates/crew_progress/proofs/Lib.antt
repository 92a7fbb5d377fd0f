mod Children
mod Counts
mod Cutting
mod Parts
