pub mod Follow
pub mod Read
pub mod Laws
