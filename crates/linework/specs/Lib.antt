pub mod Laws
pub mod Linework
pub mod Outlines
