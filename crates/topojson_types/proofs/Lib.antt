mod BoundsRows
pub mod Boxes
pub mod ByKind
pub mod Parts
pub mod SumsBack
pub mod ExactTexts
pub mod FarUnits
pub mod GridOrder
pub mod Grids
pub mod WholeNumbers
pub mod Decoded
pub mod Ends
pub mod Filled
pub mod NamedObjects
pub mod Opening
pub mod Standing
pub mod WalkPlaces
