mod KeyIndexLaws
pub mod Picked
pub mod Matches
mod PickedBags
mod Turns
pub mod Added
pub mod ColumnLaws
mod CollectedBags
mod ThroughLaws
mod SinkLaws
mod PartLaws
pub mod SourceLaws
mod FeedLaws
mod Sizes
mod AskLaws
mod EachLaws
mod Kept
mod BatchLaws
mod PieceLaws
