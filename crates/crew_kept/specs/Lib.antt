pub mod Index
pub mod Links
pub mod Numbers
pub mod Offers
pub mod Records
pub mod Taking
