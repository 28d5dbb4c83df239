pub mod Given
pub mod Tally
pub mod Groups
