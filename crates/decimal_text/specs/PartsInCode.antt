-- The parts of a number as the code holds them.
use Rattle.std.specs.Prelude.{All}
use Rattle.decimal_text.specs.declared.number_parts.NumberParts.{NumberParts}
use Rattle.decimal_text.specs.Digits.{IsDigit}
use Rattle.decimal_text.specs.Parts.{Parts}

-- the parts that the slices hold
abbrev pub parts_in : NumberParts → Parts
parts_in p = record {
  negative = p.negative;
  whole = p.whole.now;
  fraction = p.fraction.now;
  exponent_negative = p.exponent_negative;
  exponent = p.exponent.now;
}

-- each of the slices holds digits
pub record HoldsDigits (p : NumberParts) : Type 0 where
  pub whole : All IsDigit p.whole.now
  pub fraction : All IsDigit p.fraction.now
  pub exponent : All IsDigit p.exponent.now
