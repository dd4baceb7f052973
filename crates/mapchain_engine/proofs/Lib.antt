mod Built
mod BuiltAgain
mod ComingBack
pub mod Counted
mod Decided
pub mod DecodedTexts
mod Dropping
pub mod FilesDecided
pub mod FilesReached
pub mod FilesRead
mod NamesDistinct
mod NeverRefused
pub mod ObjectsFound
mod SameBytes
pub mod Sent
pub mod SimplifiedAgain
pub mod SimplifiedTexts
pub mod SimplifyDecided
mod SoundLayers
pub mod Whole
