pub mod Order
pub mod Tables
pub mod Matching
pub mod Readings
