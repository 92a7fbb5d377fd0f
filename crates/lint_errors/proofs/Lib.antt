mod Acceptance
mod Places
mod Turns
