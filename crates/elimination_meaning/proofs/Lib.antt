pub mod Direction
pub mod Ends
pub mod Enough
pub mod Higher
pub mod Order
pub mod Relabelled
pub mod Rising
mod Rows
pub mod Steps
pub mod Sublists
pub mod Turned
pub mod Weights
