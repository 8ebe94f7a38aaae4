pub mod Fronts
pub mod Adding
pub mod Laws
pub mod Steps
