mod Joining
mod Moments
mod Imaged
pub mod Cutting
