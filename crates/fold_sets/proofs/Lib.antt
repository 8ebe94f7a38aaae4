pub mod Accepting
pub mod Finishing
