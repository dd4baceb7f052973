-- The position that a JSON value stands for (RFC 7946, section 3.1.1), or the first fault.
use Rattle.std.specs.Prelude.{ℕ, ℤ, Bool, not, ◌&&◌, nat_lt, List, [], ◌∷◌, length, Option, Some, None, Result, Ok, Err, if◌then◌else◌}
use Rattle.json_value.specs.declared.json.Json.{Json}
use Rattle.decimal_text.specs.declared.num_text.Scaled.{Scaled}
use Rattle.decimal_text.specs.declared.num_text.Range.{Range as OutOfRange}
use Rattle.decimal_text.specs.Scaling.{scaled_of}
use Rattle.geojson_meaning.specs.declared.fault.GeoFaultKind.TheVariants.{WrongKind, ShortPosition, Range, Inexact}
use Rattle.geojson_types.specs.Counting.{count_rounded, count_extra}
use Rattle.json_value.specs.Kinds.{array_of, number_of}
use Rattle.geometry.specs.Points.{Point}
use Rattle.geometry.specs.Units.{input_limit, unit_places}
use Rattle.geojson_meaning.specs.Reader.{Reader, ◌>>=◌, fail}

-- whole units, unless they are out of range, or were rounded where that is refused
abbrev pub in_units : Bool → Result Scaled OutOfRange → Reader ℤ
in_units exact (Err e) = fail Range
in_units exact (Ok s) = if exact && not s.exact then fail Inexact else λ c. Ok (s.value, count_rounded (not s.exact) c)

-- a number in whole units
abbrev pub number_in_units : Bool → Option (List ℕ) → Reader ℤ
number_in_units exact None = fail WrongKind
number_in_units exact (Some t) = in_units exact (scaled_of unit_places input_limit t)

-- one coordinate
unfoldable pub coordinate : Bool → Json → Reader ℤ
coordinate exact v = number_in_units exact (number_of v)

-- x and then y; elements after them are counted once and not looked at
unfoldable pub elements_position : Bool → List Json → Reader Point
elements_position exact [] = fail ShortPosition
elements_position exact (v ∷ []) = fail ShortPosition
elements_position exact (v ∷ w ∷ more) = do
  x ← coordinate exact v
  y ← coordinate exact w
  λ c. Ok (record { x = x; y = y }, count_extra (nat_lt 0 (length more)) c)

abbrev pub array_position : Bool → Option (List Json) → Reader Point
array_position exact None = fail WrongKind
array_position exact (Some vs) = elements_position exact vs

-- a position is an array of two numbers or more
unfoldable pub position : Bool → Json → Reader Point
position exact v = array_position exact (array_of v)
