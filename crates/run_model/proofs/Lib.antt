pub mod Readings
pub mod Causes
pub mod Keeping
pub mod Completion
pub mod Runs
pub mod OneOutcome
pub mod AskedChanges
