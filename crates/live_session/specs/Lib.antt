pub mod Scripts
pub mod Folding
pub mod Lines
