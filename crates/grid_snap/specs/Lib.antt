pub mod Axes
pub mod Bounds
pub mod Inverses
pub mod Laws
pub mod Snapping
