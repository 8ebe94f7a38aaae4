pub mod Readings
pub mod FoundFields
pub mod TagOrder
pub mod Values
pub mod Lists
