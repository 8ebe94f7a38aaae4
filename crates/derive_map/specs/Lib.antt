pub mod Drawings
pub mod MapRecords
