-- The positions and arcs of a topology (TopoJSON 1.0, sections 2.1.1 to 2.1.3), or the first fault.
use Rattle.std.specs.Prelude.{ℕ, ◌^◌, ℤ, not, nat_le, nat_lt, List, [], ◌∷◌, length, Option, Some, None, Result, Ok, Err, if◌then◌else◌}
use Rattle.decimal_text.specs.declared.num_text.Scaled.{Scaled}
use Rattle.decimal_text.specs.declared.num_text.Range.{Range as OutOfRange}
use Rattle.decimal_text.specs.Scaling.{scaled_of}
use Rattle.json_value.specs.declared.json.Json.{Json}
use Rattle.json_value.specs.Kinds.{number_of}
use Rattle.geojson_types.specs.Counting.{count_rounded, count_extra}
use Rattle.geometry.specs.Points.{Point}
use Rattle.geometry.specs.Units.{unit_places, position_limit}
use Rattle.topojson_types.specs.declared.transform.Transform.{Transform}
use Rattle.topojson_types.specs.Transforms.{place_on, is_within, grid_limit, origin, moved}
use Rattle.topojson_meaning.specs.declared.fault.TopoFault.{TopoFault}
use Rattle.topojson_meaning.specs.declared.fault.TopoFault.TheVariants.{WrongKind, ShortArc, GridNumber, Range}
use Rattle.topojson_meaning.specs.Members.{elements}
use Rattle.topojson_meaning.specs.Reader.{Reader, ◌>>=◌, give, fail, pure, or_fail, each}

-- ---- positions

-- the text of a value that must be a number
unfoldable pub number_text : Json → Result (List ℕ) TopoFault
number_text v = or_fail WrongKind (number_of v)

-- whole units, unless they are out of range; that they were rounded is counted
abbrev pub units_in : Result Scaled OutOfRange → Reader ℤ
units_in (Err e) = fail Range
units_in (Ok s) = λ c. Ok (s.value, count_rounded (not s.exact) c)

-- a number in whole units
unfoldable pub units : List ℕ → Reader ℤ
units t = units_in (scaled_of unit_places position_limit t)

-- both must be numbers, and then x and y are taken in units; elements after them are counted once and not looked at
unfoldable pub elements_position : List Json → Reader Point
elements_position [] = fail WrongKind
elements_position (v ∷ []) = fail WrongKind
elements_position (v ∷ w ∷ more) = do
  s ← pure (number_text v)
  t ← pure (number_text w)
  x ← units s
  y ← units t
  λ c. Ok (record { x = x; y = y }, count_extra (nat_lt 0 (length more)) c)

-- a position is an array of two numbers or more
unfoldable pub position : Json → Reader Point
position v = do
  vs ← pure (elements v)
  elements_position vs

-- ---- cells of a grid

-- a whole number that is within this bound
abbrev pub whole_in_grid : Result Scaled OutOfRange → Result ℤ TopoFault
whole_in_grid (Err e) = Err GridNumber
whole_in_grid (Ok s) = if s.exact then Ok s.value else Err GridNumber

unfoldable pub grid_number : ℕ → List ℕ → Result ℤ TopoFault
grid_number bound t = whole_in_grid (scaled_of 0 bound t)

-- a cell of the grid, and one that lies at a position
unfoldable pub grid_cell : Transform → Point → Result Point TopoFault
grid_cell t c =
    if is_within grid_limit c
    then (if is_within position_limit (place_on t c) then Ok c else Err Range)
    else Err GridNumber

-- both must be numbers, and then whole ones within the bound: the difference from the cell before; elements after them are
-- counted once and not looked at
unfoldable pub elements_cell : Transform → ℕ → Point → List Json → Reader Point
elements_cell t bound before [] = fail WrongKind
elements_cell t bound before (v ∷ []) = fail WrongKind
elements_cell t bound before (v ∷ w ∷ more) = do
  m ← pure (number_text v)
  n ← pure (number_text w)
  x ← pure (grid_number bound m)
  y ← pure (grid_number bound n)
  cell ← pure (grid_cell t (moved before (record { x = x; y = y })))
  λ c. Ok (cell, count_extra (nat_lt 0 (length more)) c)

-- the cell that a value is, which is the difference from the cell before
unfoldable pub cell : Transform → ℕ → Point → Json → Reader Point
cell t bound before v = do
  vs ← pure (elements v)
  elements_cell t bound before vs

-- how far from zero a difference may be
abbrev pub difference_limit : ℕ
difference_limit = 2 ^ 32

-- cells, each the difference from the one before, and the first from this one
unfoldable pub cells_after : Transform → Point → List Json → Reader (List Point)
cells_after t before [] = give []
cells_after t before (v ∷ vs) = do
  c ← cell t difference_limit before v
  cs ← cells_after t c vs
  give (c ∷ cs)

-- ---- places

-- the place with these elements, of a Point or in a MultiPoint; with a transform a cell that is no difference
unfoldable pub elements_place : Option Transform → List Json → Reader Point
elements_place None vs = elements_position vs
elements_place (Some t) vs = elements_cell t grid_limit origin vs

unfoldable pub place : Option Transform → Json → Reader Point
place transform v = do
  vs ← pure (elements v)
  elements_place transform vs

-- ---- arcs

-- the cells of an arc with these elements; with a transform the first cell and then differences
unfoldable pub arc_cells : Option Transform → List Json → Reader (List Point)
arc_cells None vs = each position vs
arc_cells (Some t) vs = cells_after t origin vs

-- two or more
abbrev pub as_arc : List Point → Reader (List Point)
as_arc cs = if nat_le 2 (length cs) then give cs else fail ShortArc

-- the cells in order, and then whether they are enough
unfoldable pub arc : Option Transform → Json → Reader (List Point)
arc transform v = do
  vs ← pure (elements v)
  cs ← arc_cells transform vs
  as_arc cs

-- the arcs in order
unfoldable pub arc_list : Option Transform → Json → Reader (List (List Point))
arc_list transform v = do
  vs ← pure (elements v)
  each (arc transform) vs
