pub mod Classes
pub mod PackedFile
