pub mod Commas
pub mod Lists
pub mod Refusals
pub mod formers
