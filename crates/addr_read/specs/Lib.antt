pub mod Finding
pub mod Records
pub mod Searching
pub mod Sound
