pub mod Sessions
pub mod Plays
