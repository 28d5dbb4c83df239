pub mod BoundLemmas
pub mod ColumnLemmas
pub mod TaskLemmas
