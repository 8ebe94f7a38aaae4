pub mod Dates
pub mod Spelled
pub mod TimeOrder
