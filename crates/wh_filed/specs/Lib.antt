pub mod Filed
pub mod Filing
pub mod Fetching
pub mod Asking
