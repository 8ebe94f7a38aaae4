pub mod SoundSections
pub mod HeldParts
pub mod SameHeads
pub mod PackedImages
