pub mod Elements
pub mod Prefixes
pub mod Lists
pub mod Members
pub mod Tests
