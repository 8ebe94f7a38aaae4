pub mod EntryWalk
pub mod BlockRead
pub mod SectionRead
pub mod PointWalk
pub mod MeetingWalk
pub mod HitWalk
pub mod Pruning
