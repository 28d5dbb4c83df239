pub mod Graph
pub mod Root
pub mod Action
