-- A number text as a whole number at some decimal places, and a whole number at some decimal places as a text.
use Rattle.std.specs.Prelude.{ℕ, ◌+◌, ◌*◌, ◌/◌, ◌%◌, ◌^◌, List, ◌++◌, length, Option, Some, None, Result, Err, if◌then◌else◌, ℤ, pos, unsigned_abs, int_lt, decimal}
use Rattle.decimal_text.specs.declared.num_text.Scaled.{Scaled}
use Rattle.decimal_text.specs.declared.num_text.Range.{Range}
use Rattle.decimal_text.specs.Digits.{digits_value}
use Rattle.decimal_text.specs.Parts.{Parts, parts_of, sign_text, fraction_text}
use Rattle.decimal_text.specs.Rounding.{rounded_of}
use Rattle.decimal_text.specs.Units.{fixed, trimmed}

-- the number's magnitude times 10^places is numerator / denominator. Above: the digits before and after the point as one number,
-- times ten for each of the places and for each step of a positive exponent
abbrev pub numerator : Parts → ℕ → ℕ
numerator n places = digits_value (n.whole ++ n.fraction) * 10 ^ (places + (if n.exponent_negative then 0 else digits_value n.exponent))

-- below: ten for each digit after the point and for each step of a negative exponent
abbrev pub denominator : Parts → ℕ
denominator n = 10 ^ (length n.fraction + (if n.exponent_negative then digits_value n.exponent else 0))

-- the number with these parts times 10^places, rounded; `Range` where there is no number
abbrev pub scaled_parts : ℕ → ℕ → Option Parts → Result Scaled Range
scaled_parts places limit None = Err (record {})
scaled_parts places limit (Some n) = rounded_of n.negative (numerator n places) (denominator n) limit

-- the number text times 10^places, rounded to the nearest whole number, halves away from zero;
-- `Range` where the rounded magnitude passes the limit, and where the text is no number
unfoldable pub scaled_of : ℕ → ℕ → List ℕ → Result Scaled Range
scaled_of places limit t = scaled_parts places limit (parts_of t)

-- the least decimal of so many units of 10^-places: a minus sign for a negative number, the whole part without zeros in front,
-- and the rest, if there is one, after a point and without zeros at its end
unfoldable pub units_text : ℤ → ℕ → List ℕ
units_text units places =
    let size : ℕ = unsigned_abs units in
    (sign_text (int_lt units (pos 0)) ++ decimal (size / 10 ^ places))
    ++ fraction_text (trimmed (fixed places (size % 10 ^ places)))
