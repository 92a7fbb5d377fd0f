pub mod Adding
mod Names
