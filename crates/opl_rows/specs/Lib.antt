pub mod Fronts
pub mod Rows
pub mod Runs
pub mod Held
pub mod Refs
pub mod Members
