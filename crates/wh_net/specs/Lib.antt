pub mod Net
pub mod Stream
