pub mod Meant
pub mod Objects
pub mod Tables
pub mod Streams
pub mod Tasks
pub mod DynamicTables
pub mod Statements
pub mod Names
