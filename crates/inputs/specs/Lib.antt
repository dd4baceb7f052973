pub mod LayerLaws
pub mod Names
pub mod Outcomes
pub mod Reading
pub mod Sent
pub mod Sources
pub mod Texts
