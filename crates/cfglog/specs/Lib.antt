pub mod Texts
pub mod Log
pub mod Written
