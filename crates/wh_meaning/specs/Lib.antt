pub mod Scalar
pub mod Bag
pub mod BagChange
pub mod Query
pub mod Listing
