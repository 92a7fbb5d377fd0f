mod Adding
mod Lost
