pub mod ListLaws
pub mod TestLaws
pub mod InOrder
pub mod FitLemmas
