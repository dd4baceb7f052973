-- The numbers of a position or a cell (TopoJSON 1.0, section 2.1.1).
use Rattle.std.specs.Prelude.{nat_lt, ℤ, Bool, true, Option, Some, List, [], ◌∷◌, length}
use Rattle.json_value.specs.declared.json.Json.{Json}
use Rattle.topojson_meaning.specs.declared.fault.TopoFault.TheVariants.{WrongKind}
use Rattle.topojson_meaning.specs.Reader.{Reader, ◌>>=◌, give, fail}
use Rattle.unit_scanning.specs.declared.units.Units.{Units}
use Rattle.json_cursor.specs.Arrays.{array_by}
use Rattle.topojson_decoder.specs.declared.numbers.Scale.{Scale}
use Rattle.topojson_decoder.specs.declared.pairs.Pair.{Pair}
use Rattle.topojson_decoder.specs.Numbers.{number}

-- the second, after this first; elements after it are not looked at
abbrev pub second : Scale → Option Units → List Json → Reader Pair
second scale x [] = fail WrongKind
second scale x (w ∷ more) = do
  y ← number scale w
  give (record { x = x; y = y; more = nat_lt 0 (length more) })

-- both of these elements must be numbers
abbrev pub both : Scale → List Json → Reader Pair
both scale [] = fail WrongKind
both scale (v ∷ vs) = do
  x ← number scale v
  second scale x vs

-- the first two elements of an array
abbrev pub pair : Scale → Json → Reader Pair
pair scale = array_by WrongKind (both scale)

-- the pair of these numbers, of which none is rounded
abbrev pub plain_pair : ℤ → ℤ → Bool → Pair
plain_pair x y more = record { x = Some (record { value = x; exact = true }); y = Some (record { value = y; exact = true }); more = more }
