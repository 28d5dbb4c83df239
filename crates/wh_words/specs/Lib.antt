pub mod Number
pub mod Task
pub mod Words
