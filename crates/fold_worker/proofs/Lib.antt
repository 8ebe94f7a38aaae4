pub mod Raising
pub mod Working
