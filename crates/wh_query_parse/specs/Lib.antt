pub mod Follow
pub mod Read
pub mod Nests
pub mod Laws
