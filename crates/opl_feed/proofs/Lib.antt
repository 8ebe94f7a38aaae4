pub mod Cuts
pub mod Places
pub mod Reading
pub mod Steps
pub mod Feeding
