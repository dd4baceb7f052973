pub mod Arranged
pub mod Beyond
pub mod Boxes
pub mod Flat
