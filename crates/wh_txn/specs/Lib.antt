pub mod View
pub mod Fault
pub mod Seen
pub mod Touched
pub mod Recording
pub mod Lone
