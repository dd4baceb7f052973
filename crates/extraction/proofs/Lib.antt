pub mod Bounded
pub mod Relined
pub mod Snapped
pub mod TakenOut
