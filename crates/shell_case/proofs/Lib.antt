mod Counting
mod Finding
mod Flags
mod Groups
mod Shared
mod Steps
