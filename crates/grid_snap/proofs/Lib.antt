pub mod Inverses
pub mod Layered
pub mod Least
pub mod Rows
pub mod Settled
pub mod Spacing
pub mod Widening
