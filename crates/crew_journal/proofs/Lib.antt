mod Written
mod Noting
