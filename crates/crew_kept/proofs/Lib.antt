mod Asking
mod Indexed
mod Joining
mod Keeping
mod Linking
mod Recorded
mod Fresh
