pub mod Firsts
pub mod Search
pub mod Tags
pub mod Texts
pub mod RowReadings
pub mod RuleLaw
pub mod TextSteps
pub mod CanonicalRules
