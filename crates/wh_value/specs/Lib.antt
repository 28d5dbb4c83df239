pub mod Value
pub mod Column
pub mod View
pub mod Order
pub mod Fits
pub mod Limit
pub mod Appended
