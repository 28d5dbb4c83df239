pub mod View
pub mod Front
pub mod Read
pub mod Gives
pub mod Laws
