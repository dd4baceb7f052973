pub mod Names
pub mod Walks
pub mod Junctions
pub mod Splits
pub mod PieceLaws
pub mod TurnedRings
pub mod Starts
pub mod OpenPieces
pub mod RingPieces
pub mod Structured
pub mod SegmentLaws
pub mod SliceLaws
pub mod SharedCuts
pub mod Agreement
pub mod Known
pub mod Joins
pub mod CleanStarts
pub mod Words
mod Rows
mod Alone
mod Unlike
