pub mod Streams
pub mod Rows
pub mod Feeds
