pub mod Wholes
mod Agreements
mod Keeping
mod Remakings
mod Examples
mod Headlines
