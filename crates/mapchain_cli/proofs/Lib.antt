pub mod Cut
pub mod Delivered
pub mod Kept
pub mod Opened
pub mod Refusals
pub mod Statuses
pub mod Untouched
