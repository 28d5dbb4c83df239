pub mod View
pub mod Tuple
pub mod Increments
pub mod Plan
