pub mod Hits
pub mod Laws
