pub mod Standing
pub mod Grouping
pub mod Tally
pub mod Moves
pub mod Moved
pub mod Slots
pub mod Settling
pub mod Updates
