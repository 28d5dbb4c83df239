pub mod KnownMoments
pub mod UpstreamLaws
pub mod DirectLaws
pub mod RebaseLaws
pub mod ClosedLaws
pub mod DueLaws
