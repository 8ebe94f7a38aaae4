pub mod Roads
pub mod Turns
