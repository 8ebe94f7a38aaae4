pub mod Known
pub mod Causes
pub mod Events
pub mod Desks
pub mod Answers
