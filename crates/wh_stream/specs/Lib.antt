pub mod Loaded
pub mod Shown
pub mod Asked
