pub mod Exactness
pub mod TextSteps
