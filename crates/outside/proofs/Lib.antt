pub mod ReadingLemmas
pub mod Weightless
pub mod WholeLemmas
pub mod MemoryLemmas
