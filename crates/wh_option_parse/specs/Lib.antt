pub mod Alone
pub mod Read
pub mod Nests
pub mod View
pub mod Follow
pub mod Laws
