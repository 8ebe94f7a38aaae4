pub mod Calendar
pub mod Heads
pub mod Hours
pub mod Spans
pub mod Texts
