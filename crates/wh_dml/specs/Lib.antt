pub mod View
pub mod Leaving
pub mod Given
pub mod Steps
pub mod Pieces
