-- The lines, rings and polygons as arc indexes (TopoJSON 1.0, section 2.1.4) that a JSON value stands for, or the first fault.
use Rattle.std.specs.Prelude.{ℕ, ◌-◌, ◌^◌, ℤ, Bool, nat_lt, List, [], ◌∷◌, length, Option, Some, None, Result, Ok, Err, if◌then◌else◌}
use Rattle.decimal_text.specs.declared.num_text.Scaled.{Scaled}
use Rattle.decimal_text.specs.declared.num_text.Range.{Range as OutOfRange}
use Rattle.decimal_text.specs.Scaling.{scaled_of}
use Rattle.json_value.specs.declared.json.Json.{Json}
use Rattle.json_value.specs.Kinds.{array_of}
use Rattle.geojson_types.specs.Counting.{count_empty}
use Rattle.geometry.specs.Lists.{then_some}
use Rattle.geometry.specs.Points.{Point}
use Rattle.geometry.specs.Rings.{both_same}
use Rattle.geometry.specs.Joins.{number_of, arc_at, first_of, last_of}
use Rattle.topojson_meaning.specs.declared.fault.TopoFault.TheVariants.{WrongKind, IndexRange, Unjoined, OpenRing}
use Rattle.topojson_meaning.specs.Arcs.{number_text}
use Rattle.topojson_meaning.specs.Reader.{Reader, ◌>>=◌, give, fail, pure, if_some, kept}

-- ---- empty arrays

-- the elements of an array; an empty one is counted, and gives nothing
abbrev pub elements_in : Option (List Json) → Reader (Option (List Json))
elements_in None = fail WrongKind
elements_in (Some []) = λ c. Ok (None, count_empty c)
elements_in (Some (v ∷ vs)) = give (Some (v ∷ vs))

unfoldable pub some_elements : Json → Reader (Option (List Json))
some_elements v = elements_in (array_of v)

-- ---- indexes

-- the greatest magnitude of a number that may be an index
abbrev pub index_limit : ℕ
index_limit = 2 ^ 63 - 1

-- out of range by the rounded number, and then whether it was whole
abbrev pub whole_in : Result Scaled OutOfRange → Reader ℤ
whole_in (Err e) = fail IndexRange
whole_in (Ok s) = if s.exact then give s.value else fail WrongKind

-- it names one of so many arcs
abbrev pub in_range : ℕ → ℤ → Reader ℤ
in_range count i = if nat_lt (number_of i) count then give i else fail IndexRange

-- the index that a value is, where there are so many arcs
unfoldable pub index : ℕ → Json → Reader ℤ
index count v = do
  t ← pure (number_text v)
  i ← whole_in (scaled_of 0 index_limit t)
  in_range count i

-- ---- lines and rings

-- the arc of the one index ends where that of the other begins
abbrev pub meets : List (List Point) → ℤ → ℤ → Bool
meets arcs i j = both_same (last_of (arc_at arcs i)) (first_of (arc_at arcs j))

-- the index, if its arc begins where that of the index before ends
abbrev pub joined_to : List (List Point) → ℤ → ℤ → Reader ℤ
joined_to arcs before i = if meets arcs before i then give i else fail Unjoined

-- the indexes of a line after this one, each joined to the one before
unfoldable pub indexes_after : List (List Point) → ℤ → List Json → Reader (List ℤ)
indexes_after arcs before [] = give []
indexes_after arcs before (v ∷ vs) = do
  j ← index (length arcs) v
  i ← joined_to arcs before j
  refs ← indexes_after arcs i vs
  give (i ∷ refs)

-- the indexes of a line
unfoldable pub indexes : List (List Point) → List Json → Reader (List ℤ)
indexes arcs [] = give []
indexes arcs (v ∷ vs) = do
  i ← index (length arcs) v
  refs ← indexes_after arcs i vs
  give (i ∷ refs)

-- where the arc of the first index begins
abbrev pub line_start : List (List Point) → List ℤ → Option Point
line_start arcs refs = then_some (λ i. first_of (arc_at arcs i)) (first_of refs)

-- where the arc of the last index ends
abbrev pub line_end : List (List Point) → List ℤ → Option Point
line_end arcs refs = then_some (λ i. last_of (arc_at arcs i)) (last_of refs)

-- a ring ends where it begins
abbrev pub as_ring : List (List Point) → List ℤ → Reader (Option (List ℤ))
as_ring arcs refs = if both_same (line_end arcs refs) (line_start arcs refs) then give (Some refs) else fail OpenRing

-- the indexes of a line in order
unfoldable pub line_in : List (List Point) → List Json → Reader (Option (List ℤ))
line_in arcs vs = do
  refs ← indexes arcs vs
  give (Some refs)

-- a line, or nothing where its array is empty
unfoldable pub line : List (List Point) → Json → Reader (Option (List ℤ))
line arcs v = do
  vs ← some_elements v
  if_some (line_in arcs) vs

-- the indexes of a ring in order, and then whether it closes
unfoldable pub ring_in : List (List Point) → List Json → Reader (Option (List ℤ))
ring_in arcs vs = do
  refs ← indexes arcs vs
  as_ring arcs refs

-- a ring, or nothing where its array is empty
unfoldable pub ring : List (List Point) → Json → Reader (Option (List ℤ))
ring arcs v = do
  vs ← some_elements v
  if_some (ring_in arcs) vs

-- ---- polygons

-- the outer ring before the others; without it there is no polygon
abbrev pub with_outer : Option (List ℤ) → List (List ℤ) → Option (List (List ℤ))
with_outer None inner = None
with_outer (Some outer) inner = Some (outer ∷ inner)

-- the first ring is the outer one; the others are read where it is left out too
unfoldable pub polygon_in : List (List Point) → List Json → Reader (Option (List (List ℤ)))
polygon_in arcs [] = give None
polygon_in arcs (v ∷ vs) = do
  outer ← ring arcs v
  inner ← kept (ring arcs) vs
  give (with_outer outer inner)

-- a polygon, or nothing where its array is empty or its outer ring is left out
unfoldable pub polygon : List (List Point) → Json → Reader (Option (List (List ℤ)))
polygon arcs v = do
  vs ← some_elements v
  if_some (polygon_in arcs) vs
