pub mod Keys
pub mod Binds
pub mod Steps
pub mod Lists
pub mod Chains
pub mod Gives
pub mod Laws
