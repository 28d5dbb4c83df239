pub mod KnownGraphs
pub mod ReadyLaws
pub mod SkipLaws
