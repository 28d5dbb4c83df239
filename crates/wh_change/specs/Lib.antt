pub mod Appended
pub mod RowChange
pub mod Rows
pub mod Seen
pub mod TurnedOver
