pub mod Features
pub mod Layers
pub mod Members
pub mod Positions
