pub mod Rising
pub mod Spelled
pub mod Walk
