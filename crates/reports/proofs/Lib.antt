pub mod Decoded
mod Examples
pub mod Hollow
pub mod Lines
pub mod Lists
pub mod Lost
pub mod LostOnce
mod Objects
pub mod Paths
pub mod Reported
