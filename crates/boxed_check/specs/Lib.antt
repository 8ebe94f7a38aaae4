pub mod Leaves
pub mod Keeping
pub mod Points
pub mod Blocks
pub mod Nodes
pub mod Sections
