-- Where the cells of a topology lie (TopoJSON 1.0, sections 2.1.2 and 2.1.3).
use Rattle.std.specs.Prelude.{ℕ, ◌^◌, pos, ◌+ℤ◌, unsigned_abs, nat_le, Bool, ◌&&◌, List, [], ◌∷◌, Option, Some, None, if◌then◌else◌}
use Rattle.geometry.specs.Points.{Point, IsWithin, IsPosition}
use Rattle.geometry.specs.Units.{position_limit}
use Rattle.topojson_types.specs.declared.transform.Transform.{Transform}
use Rattle.topojson_types.specs.TransformNumbers.{stands_for, IsTransformNumber}

-- ---- places

-- all four numbers of a transform are numbers within their limit
abbrev pub IsTransform : Transform → Type 0
IsTransform t = (IsTransformNumber t.scale.0 × IsTransformNumber t.scale.1) × (IsTransformNumber t.translate.0 × IsTransformNumber t.translate.1)

-- where a cell of the grid lies
unfoldable pub place_on : Transform → Point → Point
place_on t c = record { x = stands_for t.scale.0 t.translate.0 c.x; y = stands_for t.scale.1 t.translate.1 c.y }

-- where a cell lies; without a transform it is its own place
abbrev pub place : Option Transform → Point → Point
place None c = c
place (Some t) c = place_on t c

-- neither coordinate is farther from zero than the bound
unfoldable pub is_within : ℕ → Point → Bool
is_within bound p = nat_le (unsigned_abs p.x) bound && nat_le (unsigned_abs p.y) bound

-- the position that a cell stands for, if it is one
unfoldable pub placed : Option Transform → Point → Option Point
placed transform c = if is_within position_limit (place transform c) then Some (place transform c) else None

-- ---- cells of the grid

-- how far from zero the numbers of the grid may be
abbrev pub grid_limit : ℕ
grid_limit = 2 ^ 31

-- each cell of the grid lies at a position
abbrev pub PlacesAll : Transform → Type 0
PlacesAll t = (c : Point) → IsWithin grid_limit c → IsPosition (place_on t c)

-- the cell that lies so far from another
abbrev pub moved : Point → Point → Point
moved p d = record { x = p.x +ℤ d.x; y = p.y +ℤ d.y }

-- each cell is the one before moved by the difference that stands in its place, and the first by the one from this on
unfoldable pub sums_from : Point → List Point → List Point
sums_from p [] = []
sums_from p (d ∷ ds) = moved p d ∷ sums_from (moved p d) ds

-- the origin of the grid
abbrev pub origin : Point
origin = record { x = pos 0; y = pos 0 }

-- the cells of an arc that stands as its first cell and then differences (section 2.1.3)
abbrev pub sums : List Point → List Point
sums ds = sums_from origin ds
