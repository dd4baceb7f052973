-- Arc indexes one after another, and the lines and rings that they make (TopoJSON 1.0, section 2.1.4).
use Rattle.std.specs.Prelude.{ℕ, ℤ, Bool, true, false, not, ◌&&◌, List, Option, Some, None, length, if◌then◌else◌}
use Rattle.json_value.specs.declared.json.Json.{Json}
use Rattle.geometry.specs.Points.{Point}
use Rattle.geometry.specs.Rings.{both_same}
use Rattle.unit_scanning.specs.declared.units.Units.{Units}
use Rattle.topojson_meaning.specs.declared.fault.TopoFault.TheVariants.{WrongKind, IndexRange, OpenRing}
use Rattle.topojson_meaning.specs.Lines.{index, in_range, joined_to, line, ring, line_end, line_start}
use Rattle.topojson_meaning.specs.Reader.{Reader, ◌>>=◌, give, fail}
use Rattle.topojson_decoder.specs.Running.{running}

-- the index with this number
abbrev pub index_of : ℕ → Option Units → Reader ℤ
index_of count None = fail IndexRange
index_of count (Some u) = if u.exact then in_range count u.value else fail WrongKind

-- by what the next index of a line is read: the arcs, and the index before it
abbrev pub Joint : Type 0
Joint = List (List Point) × Option ℤ

abbrev pub joined_index : List (List Point) → Option ℤ → ℤ → Reader ℤ
joined_index arcs None i = give i
joined_index arcs (Some before) i = joined_to arcs before i

-- an index that is joined to the one before
abbrev pub next_index : Joint → Json → Reader ℤ
next_index s v = do
  i ← index (length s.0) v
  joined_index s.0 s.1 i

abbrev pub after_index : Joint → ℤ → Joint
after_index s i = (s.0, Some i)

-- the indexes of a line so far, and by what the next one is read
abbrev pub IndexesSoFar : Type 0
IndexesSoFar = Joint × List ℤ

abbrev pub with_index : IndexesSoFar → Json → Reader IndexesSoFar
with_index = running next_index after_index

-- a value as a ring, where it has to close, or else as a line
abbrev pub line_or_ring : Bool → List (List Point) → Json → Reader (Option (List ℤ))
line_or_ring true arcs v = ring arcs v
line_or_ring false arcs v = line arcs v

-- these have to close, and don't
abbrev pub is_open : Bool → List (List Point) → List ℤ → Bool
is_open closed arcs refs = closed && not (both_same (line_end arcs refs) (line_start arcs refs))

-- the line or ring of these indexes
abbrev pub as_line_or_ring : Bool → List (List Point) → List ℤ → Reader (Option (List ℤ))
as_line_or_ring closed arcs refs = if is_open closed arcs refs then fail OpenRing else give (Some refs)
