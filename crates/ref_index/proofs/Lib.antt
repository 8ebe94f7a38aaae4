pub mod Pairing
pub mod Following
pub mod Touching
