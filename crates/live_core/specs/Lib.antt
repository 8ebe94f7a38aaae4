pub mod Running
pub mod Kept
