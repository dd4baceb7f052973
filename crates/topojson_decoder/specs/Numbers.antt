-- Numbers at a scale.
use Rattle.std.specs.Prelude.{ℕ, ℤ, true, List, Option, Some, None, Result, Ok, Err}
use Rattle.decimal_text.specs.declared.num_text.Scaled.{Scaled}
use Rattle.decimal_text.specs.declared.num_text.Range.{Range as OutOfRange}
use Rattle.decimal_text.specs.Scaling.{scaled_of}
use Rattle.geometry.specs.Units.{unit_places, position_limit}
use Rattle.json_value.specs.declared.json.Json.{Json}
use Rattle.geojson_types.specs.declared.counts.Counts.{Counts}
use Rattle.json_cursor.specs.Answers.{Reads}
use Rattle.json_cursor.specs.Arrays.{prefix_value}
use Rattle.unit_scanning.specs.declared.units.Units.{Units}
use Rattle.topojson_meaning.specs.Arcs.{number_text}
use Rattle.topojson_meaning.specs.Reader.{Reader, ◌>>=◌, give, pure}
use Rattle.topojson_decoder.specs.declared.numbers.Scale.{Scale}
use Rattle.topojson_decoder.specs.declared.numbers.Scale.TheVariants as scale

-- the number, if it is in range
abbrev pub in_range : Result Scaled OutOfRange → Option Units
in_range (Err e) = None
in_range (Ok s) = Some (record { value = s.value; exact = s.exact })

-- the number that a value is at so many decimals, if it is within the limit
abbrev pub scaled_at : ℕ → ℕ → Json → Reader (Option Units)
scaled_at places limit v = do
  t ← pure (number_text v)
  give (in_range (scaled_of places limit t))

abbrev pub scale_places : Scale → ℕ
scale_places scale.Units = unit_places
scale_places (scale.Whole bound) = 0

abbrev pub scale_limit : Scale → ℕ
scale_limit scale.Units = position_limit
scale_limit (scale.Whole bound) = bound

-- the number that a value is at a scale, if it is within the scale's limit
abbrev pub number : Scale → Json → Reader (Option Units)
number s = scaled_at (scale_places s) (scale_limit s)

-- this number at this scale stands at the front, none of it rounded, however deep arrays and objects may nest, and then the rest
abbrev pub IsPlainNumber : Scale → List ℕ → ℤ → List ℕ → Type 0
IsPlainNumber s bytes value rest = (d : ℕ) (c : Counts) → Reads (number s) (prefix_value d bytes) (Some (record { value = value; exact = true })) rest c c
