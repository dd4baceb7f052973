pub mod Forms
pub mod Places
