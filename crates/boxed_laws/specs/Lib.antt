pub mod Bare
pub mod Classes
pub mod Laws
