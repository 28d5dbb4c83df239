mod Several
mod Shorter
mod Sound
mod Complete
pub mod Reading
