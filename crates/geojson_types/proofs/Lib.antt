pub mod Nestings
