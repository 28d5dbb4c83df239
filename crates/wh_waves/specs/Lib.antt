pub mod Waves
pub mod Settled
