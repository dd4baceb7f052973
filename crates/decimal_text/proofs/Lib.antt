mod Examples
pub mod DigitsValue
pub mod DigitRuns
pub mod RoundedFractions
pub mod ReadsParts
pub mod SpellsParts
pub mod Nearest
pub mod NumberBytes
pub mod ScaledNumber
pub mod Trimmed
pub mod UnitsText
