pub mod Codes
pub mod Counting
pub mod Features
pub mod Moving
pub mod Nesting
pub mod Numbers
pub mod Places
pub mod Texts
