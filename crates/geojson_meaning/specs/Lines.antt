-- The line that a JSON value stands for (RFC 7946, section 3.1.4), or the first fault.
use Rattle.std.specs.Prelude.{Bool, List, [], ◌∷◌, Option, Some, None, Ok, if◌then◌else◌}
use Rattle.json_value.specs.declared.json.Json.{Json}
use Rattle.geojson_meaning.specs.declared.fault.GeoFaultKind.TheVariants.{WrongKind, ShortLine}
use Rattle.geojson_meaning.specs.Coordinates.{position}
use Rattle.geojson_types.specs.Counting.{count_empty}
use Rattle.geojson_types.specs.Features.{is_line}
use Rattle.json_value.specs.Kinds.{array_of}
use Rattle.geometry.specs.Points.{Point}
use Rattle.geojson_meaning.specs.Reader.{Reader, ◌>>=◌, give, fail, each, if_some}

-- the elements of an array; an empty one is counted, and gives nothing
abbrev pub elements_in : Option (List Json) → Reader (Option (List Json))
elements_in None = fail WrongKind
elements_in (Some []) = λ c. Ok (None, count_empty c)
elements_in (Some (v ∷ vs)) = give (Some (v ∷ vs))

unfoldable pub some_elements : Json → Reader (Option (List Json))
some_elements v = elements_in (array_of v)

-- a line has two positions or more
abbrev pub as_line : List Point → Reader (Option (List Point))
as_line ps = if is_line ps then give (Some ps) else fail ShortLine

-- the positions in order, and then whether they are enough
unfoldable pub line_in : Bool → List Json → Reader (Option (List Point))
line_in exact vs = do
  ps ← each (position exact) vs
  as_line ps

-- a line, or nothing where its array is empty
unfoldable pub line : Bool → Json → Reader (Option (List Point))
line exact v = do
  vs ← some_elements v
  if_some (line_in exact) vs
