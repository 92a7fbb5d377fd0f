mod Others
mod Refusals
mod Statuses
mod Whole
