pub mod Bounds
pub mod Filters
pub mod Meeting
pub mod NearPoints
pub mod Records
pub mod Sound
pub mod Steps
