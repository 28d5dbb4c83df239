pub mod View
pub mod Decoding
pub mod Laws
pub mod Places
