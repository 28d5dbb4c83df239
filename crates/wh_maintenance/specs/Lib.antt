pub mod Turn
pub mod Carried
pub mod Delta
pub mod Parts
pub mod Standing
pub mod Above
pub mod Entries
