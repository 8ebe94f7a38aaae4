pub mod Publishing
pub mod Following
pub mod Preparing
pub mod Ages
