-- The least box that holds the cells that were looked at so far.
use Rattle.std.specs.Prelude.{List, [], ◌∷◌, Option, None, Some}
use Rattle.std.specs.Int.{int_min, int_max}
use Rattle.geometry.specs.Points.{Point}
use Rattle.topojson_types.specs.Bounds.{Corners}

-- with one cell more
abbrev pub widened : Option Corners → Point → Corners
widened None p = (p, p)
widened (Some b) p = (
  record { x = int_min b.0.x p.x; y = int_min b.0.y p.y },
  record { x = int_max b.1.x p.x; y = int_max b.1.y p.y },
)

-- with more cells
abbrev pub widened_by : Option Corners → List Point → Option Corners
widened_by b [] = b
widened_by b (c ∷ cs) = widened_by (Some (widened b c)) cs
