pub mod Events
pub mod Desks
pub mod Asking
