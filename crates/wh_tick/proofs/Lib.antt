pub mod CarryLemmas
pub mod CatalogLemmas
pub mod EndLemmas
pub mod GuardLemmas
pub mod HoldingLaws
pub mod RunLemmas
pub mod ReadyLemmas
