pub mod HitRows
pub mod RowLaws
