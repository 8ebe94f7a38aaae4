pub mod RecordShape
pub mod ObjectNumbers
pub mod PackedMaps
pub mod RecordFacts
pub mod MapRead
