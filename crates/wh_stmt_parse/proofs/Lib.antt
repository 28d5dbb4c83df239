mod Pieces
mod Texts
mod Carrying
mod PartsSound
mod PlainSound
mod Readers
mod Heads
mod Parting
mod KeptSound
mod PartsComplete
mod Calls
mod PlainComplete
mod KeptComplete
mod Statements
pub mod Reading
pub mod Outcomes
