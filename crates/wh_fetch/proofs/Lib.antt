mod Held
mod OrderLemmas
mod CacheLemmas
pub mod DamageLemmas
