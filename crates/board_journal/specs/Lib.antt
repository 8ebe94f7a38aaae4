pub mod Rules
pub mod Journals
pub mod Views
