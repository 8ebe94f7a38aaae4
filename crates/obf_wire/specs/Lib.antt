pub mod Kinds
pub mod Varint
pub mod Zigzag
pub mod Fields
pub mod KnownKeys
pub mod Windows
