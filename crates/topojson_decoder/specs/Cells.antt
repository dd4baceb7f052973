-- The cells of an arc, one after another (TopoJSON 1.0, section 2.1.3).
use Rattle.std.specs.Prelude.{ℤ, not, List, Option, Some, None, Ok, if◌then◌else◌}
use Rattle.json_value.specs.declared.json.Json.{Json}
use Rattle.geometry.specs.Points.{Point}
use Rattle.topojson_types.specs.declared.transform.Transform.{Transform}
use Rattle.geojson_types.specs.Counting.{count_rounded, count_extra}
use Rattle.topojson_types.specs.Transforms.{moved}
use Rattle.unit_scanning.specs.declared.units.Units.{Units}
use Rattle.topojson_meaning.specs.declared.fault.TopoFault.TheVariants.{GridNumber, Range}
use Rattle.topojson_meaning.specs.Arcs.{position, cell, grid_cell, difference_limit, arc}
use Rattle.topojson_meaning.specs.Reader.{Reader, ◌>>=◌, fail, pure, or_fail}
use Rattle.topojson_decoder.specs.declared.pairs.Pair.{Pair}
use Rattle.topojson_decoder.specs.Running.{running}

-- ---- cells by their pairs of numbers

-- a coordinate, that it was rounded is counted
abbrev pub in_units : Option Units → Reader ℤ
in_units None = fail Range
in_units (Some u) = λ c. Ok (u.value, count_rounded (not u.exact) c)

-- the position with these numbers
abbrev pub position_of : Pair → Reader Point
position_of p = do
  x ← in_units p.x
  y ← in_units p.y
  λ c. Ok (record { x = x; y = y }, count_extra p.more c)

-- it, if it is whole
abbrev pub whole : Option Units → Option ℤ
whole None = None
whole (Some u) = if u.exact then Some u.value else None

-- the cell that lies so far from this one
abbrev pub cell_of : Transform → Point → Pair → Reader Point
cell_of t before p = do
  x ← pure (or_fail GridNumber (whole p.x))
  y ← pure (or_fail GridNumber (whole p.y))
  cell ← pure (grid_cell t (moved before (record { x = x; y = y })))
  λ c. Ok (cell, count_extra p.more c)

-- ---- arcs

-- what a value is after this cell: with a transform a difference from it, and else a position
abbrev pub cell_from : Option Transform → Point → Json → Reader Point
cell_from None before v = position v
cell_from (Some t) before v = cell t difference_limit before v

-- by what the next cell of an arc is read: the transform, and the cell before it
abbrev pub Before : Type 0
Before = Option Transform × Point

abbrev pub next_cell : Before → Json → Reader Point
next_cell s v = cell_from s.0 s.1 v

abbrev pub after_cell : Before → Point → Before
after_cell s c = (s.0, c)

-- the cells of an arc so far, and by what the next one is read
abbrev pub CellsSoFar : Type 0
CellsSoFar = Before × List Point

-- one more cell
abbrev pub with_cell : CellsSoFar → Json → Reader CellsSoFar
with_cell = running next_cell after_cell

-- the arcs so far, and the transform by which the next one is read
abbrev pub ArcsSoFar : Type 0
ArcsSoFar = Option Transform × List (List Point)

abbrev pub same_transform : Option Transform → List Point → Option Transform
same_transform transform cells = transform

-- one more arc
abbrev pub with_arc : ArcsSoFar → Json → Reader ArcsSoFar
with_arc = running arc same_transform
