pub mod Fault
pub mod Warehouse
pub mod Answers
pub mod Halts
pub mod Leaves
pub mod Replay
pub mod Opening
pub mod Laws
