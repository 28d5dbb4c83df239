pub mod Fetch
pub mod MemFetch
pub mod Device
pub mod Place
pub mod Cache
pub mod DiskFetch
pub mod Overlay
