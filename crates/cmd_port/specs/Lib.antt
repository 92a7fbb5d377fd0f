pub mod Ported
pub mod Served
pub mod Asked
pub mod Printed
pub mod Refusals
