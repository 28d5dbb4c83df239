pub mod Parts
pub mod AreaLaws
pub mod MarkedLaws
pub mod PlaceLaws
pub mod AheadLaws
pub mod TurnLaws
