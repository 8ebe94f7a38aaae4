pub mod Finishing
pub mod Changing
pub mod Images
pub mod Replaying
