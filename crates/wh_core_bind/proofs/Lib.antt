pub mod Turns
pub mod FindingLaws
pub mod CoreLemmas
