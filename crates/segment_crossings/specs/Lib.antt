pub mod Crossings
pub mod Gathering
pub mod Lines
pub mod Marks
pub mod Trees
