mod Adding
mod Found
