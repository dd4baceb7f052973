-- Arcs as differences (TopoJSON 1.0, section 2.1.3), and laws of them and of the texts of a transform.
use Rattle.std.specs.Prelude.{◌≡◌, ℕ, ◌≤◌, ℤ, ◌+ℤ◌, ◌-ℤ◌, ◌*ℤ◌, pos, unsigned_abs, List, [], ◌∷◌}
use Rattle.decimal_text.specs.Scaling.{units_text}
use Rattle.geometry.specs.Points.{Point}
use Rattle.geometry.specs.Units.{unit_places, position_limit}
use Rattle.topojson_types.specs.Transforms.{origin, sums}
use Rattle.topojson_types.specs.TransformNumbers.{IsTransformNumber, stands_for}

-- how far the second cell lies from the first
abbrev pub difference : Point → Point → Point
difference p q = record { x = q.x -ℤ p.x; y = q.y -ℤ p.y }

-- each cell as its difference from the one before, and the first as that from this one
unfoldable pub deltas_from : Point → List Point → List Point
deltas_from p [] = []
deltas_from p (c ∷ cs) = difference p c ∷ deltas_from c cs

-- an arc as its first cell and then differences
abbrev pub deltas : List Point → List Point
deltas cs = deltas_from origin cs

-- the sums of the differences are the cells again
abbrev pub SumsOfDeltas : Type 0
SumsOfDeltas = (cs : List Point) → sums (deltas cs) ≡ cs

-- the text of a coordinate is a number of a transform
abbrev pub UnitsAreNumbers : Type 0
UnitsAreNumbers = (u : ℤ) → unsigned_abs u ≤ position_limit → IsTransformNumber (units_text u unit_places)

-- with the texts of a step and of a first coordinate, a number of the grid stands for that many steps from there, exactly
abbrev pub StandsExactly : Type 0
StandsExactly = (step k : ℕ) (first : ℤ) → step ≤ position_limit → unsigned_abs first ≤ position_limit
    → stands_for (units_text (pos step) unit_places) (units_text first unit_places) (pos k) ≡ first +ℤ (pos k *ℤ pos step)
