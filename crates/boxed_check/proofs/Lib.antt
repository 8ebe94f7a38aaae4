pub mod LeafBoxes
pub mod PointWalk
pub mod BlockWalk
pub mod NodeWalk
pub mod SectionWalk
pub mod SurveyWalk
pub mod Good
