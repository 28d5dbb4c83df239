pub mod Findings
pub mod Scope
pub mod Typing
pub mod Grouping
pub mod Select
pub mod Changes
pub mod View
