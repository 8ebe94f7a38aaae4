pub mod Bits
pub mod Boxes
pub mod Found
pub mod Keys
pub mod Levels
pub mod Order
pub mod Parts
pub mod Walk
