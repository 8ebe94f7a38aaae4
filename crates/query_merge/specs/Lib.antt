pub mod Gathering
pub mod Hits
pub mod Laws
pub mod Questions
pub mod Rows
