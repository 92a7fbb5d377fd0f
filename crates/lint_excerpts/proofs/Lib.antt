mod Plain
mod ShownLine
mod Joined
