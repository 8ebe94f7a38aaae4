pub mod PutAll
pub mod StableSort
