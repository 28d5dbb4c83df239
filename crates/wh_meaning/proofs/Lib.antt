pub mod BagLaws
pub mod Gathered
pub mod KeyMaps
pub mod KnownQueries
pub mod KnownScalars
pub mod Listed
