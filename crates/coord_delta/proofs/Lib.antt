pub mod NumberLists
pub mod PlaceLists
pub mod Readings
pub mod Walks
