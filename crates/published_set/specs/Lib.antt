pub mod Images
pub mod Sets
pub mod Runs
pub mod Ops
pub mod Sites
