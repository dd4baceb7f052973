pub mod Extracts
pub mod Snapped
