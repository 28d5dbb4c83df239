pub mod View
pub mod Turn
pub mod Ahead
pub mod Fault
pub mod Script
pub mod Area
pub mod ScriptPlace
