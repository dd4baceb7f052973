mod Deduped
pub mod Outlined
pub mod Gathered
pub mod Placing
pub mod Positions
pub mod Rows
