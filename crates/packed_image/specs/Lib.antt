pub mod Overlays
pub mod Packed
