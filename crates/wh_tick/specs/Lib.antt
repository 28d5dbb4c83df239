pub mod Ends
pub mod Holding
pub mod Guards
pub mod Changes
