pub mod Told
pub mod History
