-- The least and the greatest coordinates of the positions that were looked at so far.
use Rattle.std.specs.Prelude.{◌≤◌, ℤ, ◌≤ℤ◌, unsigned_abs, List, [], ◌∷◌, Option, None, Some}
use Rattle.std.specs.Int.{int_min, int_max}
use Rattle.geometry.specs.Points.{Point}
use Rattle.geometry.specs.Units.{input_limit}
use Rattle.grid_snap.specs.declared.bounds.Bounds.{Bounds}

-- with one position more
abbrev pub widened : Option Bounds → Point → Bounds
widened None p = record { left = p.x; right = p.x; bottom = p.y; top = p.y }
widened (Some b) p = record { left = int_min b.left p.x; right = int_max b.right p.x; bottom = int_min b.bottom p.y; top = int_max b.top p.y }

-- with more of them
abbrev pub widened_by : Option Bounds → List Point → Option Bounds
widened_by b [] = b
widened_by b (p ∷ ps) = widened_by (Some (widened b p)) ps

-- from the least to the greatest of numbers that are read
pub record IsSpan (least greatest : ℤ) : Type 0 where
  pub order : least ≤ℤ greatest
  pub low : unsigned_abs least ≤ input_limit
  pub high : unsigned_abs greatest ≤ input_limit

pub record AreBounds (b : Bounds) : Type 0 where
  pub x : IsSpan b.left b.right
  pub y : IsSpan b.bottom b.top

abbrev pub AreBoundsIfSome : Option Bounds → Type 0
AreBoundsIfSome None = Unit {0}
AreBoundsIfSome (Some b) = AreBounds b
