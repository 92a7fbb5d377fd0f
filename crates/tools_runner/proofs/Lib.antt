mod Others
mod Refusals
