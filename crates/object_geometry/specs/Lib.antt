pub mod Referred
pub mod Matching
