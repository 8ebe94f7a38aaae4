pub mod Lines
pub mod Numbers
pub mod Coordinates
pub mod Escapes
