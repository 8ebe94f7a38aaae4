pub mod Laying
pub mod Searching
pub mod Following
pub mod Joining
pub mod Piling
pub mod Stacking
pub mod Going
