pub mod Groups
pub mod Spellings
pub mod Places
pub mod Writing
pub mod NextField
pub mod Overlong
pub mod KnownKeys
pub mod Begun
