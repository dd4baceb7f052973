-- The numbers of a transform (TopoJSON 1.0, section 2.1.2), and what a number of the grid stands for by them.
use Rattle.std.specs.Prelude.{◌≡◌, ℕ, ℤ, pos, ◌+ℤ◌, ◌*ℤ◌, unsigned_abs, int_lt, List, Option, Some, None, Result, Ok, Err}
use Rattle.decimal_text.specs.declared.num_text.Scaled.{Scaled}
use Rattle.decimal_text.specs.declared.num_text.Range.{Range}
use Rattle.decimal_text.specs.Rounding.{nearest, signed}
use Rattle.decimal_text.specs.Scaling.{scaled_of}
use Rattle.geometry.specs.Units.{fine_units, transform_places, transform_limit}

abbrev pub value_if : Result Scaled Range → Option ℤ
value_if (Err e) = None
value_if (Ok s) = Some s.value

-- the value of a number of a transform in units of 10^-20, rounded to the nearest, if it is within the limit
unfoldable pub transform_value : List ℕ → Option ℤ
transform_value t = value_if (scaled_of transform_places transform_limit t)

abbrev pub or_zero : Option ℤ → ℤ
or_zero None = pos 0
or_zero (Some n) = n

-- it is a number and has such a value
abbrev pub IsTransformNumber : List ℕ → Type 0
IsTransformNumber t = (n : ℤ) × (transform_value t ≡ Some n)

-- so many units of 10^-20 in units of coordinates, rounded to the nearest, halves away from zero
unfoldable pub to_units : ℤ → ℤ
to_units n = signed (int_lt n (pos 0)) (nearest (unsigned_abs n) fine_units)

-- what a number k of the grid stands for, in units: k * scale + translate
unfoldable pub stands_for : List ℕ → List ℕ → ℤ → ℤ
stands_for scale translate k = to_units ((k *ℤ or_zero (transform_value scale)) +ℤ or_zero (transform_value translate))
