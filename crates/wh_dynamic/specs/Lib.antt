pub mod Query
pub mod View
