-- The parts of a position.
use Rattle.std.specs.Prelude.{◌≡◌, ℕ, ℤ, Bool, nat_lt, List, [], ◌∷◌, length, Ok}
use Rattle.json_value.specs.Reading.{skip}
use Rattle.unit_scanning.specs.declared.units.Units.{Units}
use Rattle.unit_scanning.specs.Numbers.{IsUnits}
use Rattle.json_value.specs.declared.json.Json.{Json}
use Rattle.geojson_meaning.specs.declared.fault.GeoFaultKind.TheVariants.{ShortPosition}
use Rattle.geojson_types.specs.Counting.{count_extra}
use Rattle.geometry.specs.Points.{Point}
use Rattle.geojson_meaning.specs.Coordinates.{coordinate}
use Rattle.geojson_meaning.specs.Reader.{Reader, ◌>>=◌, fail}

-- y, after this x; elements after it are counted once and not looked at
abbrev pub second_position : Bool → ℤ → List Json → Reader Point
second_position exact x [] = fail ShortPosition
second_position exact x (w ∷ more) = do
  y ← coordinate exact w
  λ c. Ok (record { x = x; y = y }, count_extra (nat_lt 0 (length more)) c)

-- two numbers stand after white space, with a comma (44) between them, and this follows them
pub record ArePair (bytes : List ℕ) (x y : Units) (rest : List ℕ) : Type 0 where
  pub after : List ℕ
  pub first : IsUnits (skip bytes) x.value x.exact after
  pub more : List ℕ
  pub comma : skip after ≡ 44 ∷ more
  pub second : IsUnits (skip more) y.value y.exact rest
