pub mod Parts
pub mod Plain
pub mod KeptText
pub mod Read
pub mod Request
pub mod Gives
pub mod Laws
