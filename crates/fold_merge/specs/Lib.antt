pub mod Folds
pub mod Collecting
pub mod Classes
pub mod Cuts
