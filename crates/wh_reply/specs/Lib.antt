pub mod Reply
pub mod View
