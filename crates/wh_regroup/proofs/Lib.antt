pub mod Sameness
pub mod KeyLemmas
