pub mod Untold
pub mod Opening
pub mod Attempt
