pub mod Condition
pub mod View
