mod Making
mod Saying
