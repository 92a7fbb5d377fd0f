mod Adding
mod Held
mod Making
mod Tables
mod Wrapping
