-- Digits at the front of bytes, and numbers in whole units.
use Rattle.std.specs.Prelude.{◌≡◌, ℕ, ◌+◌, ◌-◌, ◌*◌, ◌||◌, ◌==◌, Bool, true, false, not, List, [], ◌∷◌, ◌++◌, length, Some, Ok, if◌then◌else◌, ℤ}
use Rattle.json_value.specs.declared.json.Json.TheVariants as j
use Rattle.json_value.specs.Grammar.{is_space}
use Rattle.decimal_text.specs.Digits.{digits_value_after}
use Rattle.decimal_text.specs.Grammar.{is_digit, AllDigits}
use Rattle.decimal_text.specs.Parts.{fraction_text}
use Rattle.decimal_text.specs.Scaling.{scaled_of}
use Rattle.json_value.specs.Reading.{value_at}
use Rattle.geometry.specs.Units.{unit_places, input_limit}

-- the digits at the front
unfoldable pub digits_prefix : List ℕ → List ℕ
digits_prefix [] = []
digits_prefix (b ∷ bs) = if is_digit b then b ∷ digits_prefix bs else []

-- a digit is first
abbrev pub starts_digit : List ℕ → Bool
starts_digit [] = false
starts_digit (b ∷ bs) = is_digit b

-- the digits at the front are a whole part: one or more, and no zero (48) before another
abbrev pub whole_prefix : List ℕ → Bool
whole_prefix [] = false
whole_prefix (b ∷ bs) = if b == 48 then not (starts_digit bs) else is_digit b

-- a digit is first, and goes after the value, and this follows it
pub record IsDigitFirst (bytes : List ℕ) (value longer : ℕ) (rest : List ℕ) : Type 0 where
  pub digit : ℕ
  pub is : is_digit digit ≡ true
  pub text : bytes ≡ digit ∷ rest
  pub value_is : longer ≡ 10 * value + (digit - 48)

-- digits stand before the rest, so many, and write the value after those of start
pub record AreDigits (bytes : List ℕ) (start value count : ℕ) (rest : List ℕ) : Type 0 where
  pub digits : List ℕ
  pub all : AllDigits digits
  pub text : bytes ≡ digits ++ rest
  pub value_is : value ≡ digits_value_after start digits
  pub count_is : count ≡ length digits

-- a fraction, or none, stands before the rest, and its digits write the value after those of start
pub record IsFractionOf (bytes : List ℕ) (start value places : ℕ) (rest : List ℕ) : Type 0 where
  pub digits : List ℕ
  pub all : AllDigits digits
  pub text : bytes ≡ fraction_text digits ++ rest
  pub value_is : value ≡ digits_value_after start digits
  pub places_are : places ≡ length digits

-- nothing follows, or a byte that may stand after a value: white space, a comma (44) or a bracket that closes (93, 125)
abbrev pub ends : List ℕ → Bool
ends [] = true
ends (b ∷ bs) = is_space b || (b == 44 || (b == 93 || b == 125))

-- The bytes begin with a number that has this value at so many decimals, within the limit, rounded where it isn't exact, and the
-- rest follows it. It is the value at the front at any depth.
pub record IsNumberAt (places limit : ℕ) (bytes : List ℕ) (value : ℤ) (exact : Bool) (rest : List ℕ) : Type 0 where
  pub text : List ℕ
  pub prefix : (fits : List ℕ → Bool) (d : ℕ) → value_at fits d bytes ≡ Some (j.Number text, rest)
  pub scaled : scaled_of places limit text ≡ Ok (record { value = value; exact = exact })

-- the bytes begin with a number of units of coordinates, within the limit of positions that are read
abbrev pub IsUnits : List ℕ → ℤ → Bool → List ℕ → Type 0
IsUnits = IsNumberAt unit_places input_limit

-- the bytes begin with a whole number within the limit
abbrev pub IsWholeNumber : ℕ → List ℕ → ℤ → List ℕ → Type 0
IsWholeNumber limit bytes value rest = IsNumberAt 0 limit bytes value true rest
