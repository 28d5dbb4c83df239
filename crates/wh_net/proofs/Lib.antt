pub mod NetLaws
pub mod KnownStreams
