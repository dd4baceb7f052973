pub mod CutNumbers
pub mod FewDigits
pub mod LeastTexts
pub mod NumberParts
pub mod PlainPairs
pub mod PlainNumbers
pub mod Rounded
