-- The ring and the polygon that a JSON value stands for (RFC 7946, section 3.1.6), or the first fault.
use Rattle.std.specs.Prelude.{Bool, nat_le, List, [], ◌∷◌, length, Option, Some, None, if◌then◌else◌}
use Rattle.json_value.specs.declared.json.Json.{Json}
use Rattle.geojson_meaning.specs.declared.fault.GeoFaultKind.TheVariants.{ShortRing, OpenRing}
use Rattle.geojson_meaning.specs.Coordinates.{position}
use Rattle.geojson_meaning.specs.Lines.{some_elements}
use Rattle.geometry.specs.Points.{Point}
use Rattle.geojson_meaning.specs.Reader.{Reader, ◌>>=◌, give, fail, each, if_some, kept}
use Rattle.geometry.specs.Rings.{is_closed}

-- a ring has four positions or more, the last of which is the first again
abbrev pub as_ring : List Point → Reader (Option (List Point))
as_ring ps = if nat_le 4 (length ps) then (if is_closed ps then give (Some ps) else fail OpenRing) else fail ShortRing

-- the positions in order, and then whether they are a ring
unfoldable pub ring_in : Bool → List Json → Reader (Option (List Point))
ring_in exact vs = do
  ps ← each (position exact) vs
  as_ring ps

-- a ring, or nothing where its array is empty
unfoldable pub ring : Bool → Json → Reader (Option (List Point))
ring exact v = do
  vs ← some_elements v
  if_some (ring_in exact) vs

-- the outer ring before the others; without it there is no polygon
abbrev pub with_outer : Option (List Point) → List (List Point) → Option (List (List Point))
with_outer None inner = None
with_outer (Some outer) inner = Some (outer ∷ inner)

-- the first ring is the outer one; the others are read where it is left out too
unfoldable pub polygon_in : Bool → List Json → Reader (Option (List (List Point)))
polygon_in exact [] = give None
polygon_in exact (v ∷ vs) = do
  outer ← ring exact v
  inner ← kept (ring exact) vs
  give (with_outer outer inner)

-- a polygon, or nothing where its array is empty or its outer ring is left out
unfoldable pub polygon : Bool → Json → Reader (Option (List (List Point)))
polygon exact v = do
  vs ← some_elements v
  if_some (polygon_in exact) vs
