pub mod Finding
pub mod Gives
pub mod Outcome
pub mod Passes
pub mod Strings
