pub mod Asked
pub mod CommandLine
pub mod Faults
pub mod Joined
pub mod LayerWords
pub mod Requests
pub mod Written
