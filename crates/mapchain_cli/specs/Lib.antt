pub mod Asking
pub mod Endings
pub mod Files
pub mod Following
pub mod Notes
pub mod Outputs
pub mod Performing
pub mod Runs
