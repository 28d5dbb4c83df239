pub mod Partition
pub mod Spelling
pub mod File
