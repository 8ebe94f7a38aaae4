pub mod Names
pub mod Readings
pub mod Scripts
pub mod StepLaw
