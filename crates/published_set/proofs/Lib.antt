pub mod Images
pub mod Files
pub mod Heads
pub mod Adding
pub mod Replacing
pub mod Absorbing
pub mod Moving
pub mod Growing
