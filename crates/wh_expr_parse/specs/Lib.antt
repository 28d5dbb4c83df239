pub mod Operators
pub mod State
pub mod Read
pub mod Alone
pub mod Nests
pub mod Laws
