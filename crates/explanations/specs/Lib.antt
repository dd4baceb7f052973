pub mod Brief
pub mod BriefLaws
pub mod Numbers
