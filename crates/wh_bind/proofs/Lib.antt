pub mod Layers
pub mod OutputLemmas
pub mod Entering
