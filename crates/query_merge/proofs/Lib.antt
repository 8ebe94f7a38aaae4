pub mod FoundInFile
pub mod Gathering
pub mod HitSteps
pub mod MarkedObjects
pub mod OverImages
pub mod RowsFound
pub mod Sorted
