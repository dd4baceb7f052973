pub mod Alone
pub mod Known
pub mod Pieces
pub mod Places
pub mod Segments
pub mod SharedCuts
pub mod Slices
pub mod Structure
