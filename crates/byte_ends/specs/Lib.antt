pub mod Continues
pub mod Ends
pub mod Writes
