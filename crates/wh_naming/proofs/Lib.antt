pub mod KnownChanges
pub mod KnownNames
pub mod Written
