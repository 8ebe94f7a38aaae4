pub mod Packing
pub mod Search
pub mod Trees
pub mod Walk
