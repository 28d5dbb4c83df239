pub mod Faults
pub mod Entries
pub mod Excess
pub mod Sum
pub mod Changes
