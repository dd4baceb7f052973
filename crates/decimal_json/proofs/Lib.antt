pub mod ReadableParts
