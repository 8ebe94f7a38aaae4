pub mod Going
pub mod Ages
pub mod Counts
pub mod Played
pub mod Whole
