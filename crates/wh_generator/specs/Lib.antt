pub mod Generated
pub mod Generator
pub mod Rest
