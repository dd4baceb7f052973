-- Boxes round positions.
use Rattle.std.specs.Prelude.{pos, ◌≤ℤ◌, Bool, ◌&&◌, int_le}
use Rattle.geometry.specs.Points.{Point}
use Rattle.planar_predicates.specs.declared.extent.Extent.{Extent}

-- where a list has no box
abbrev pub no_extent : Extent
no_extent = record { low_x = pos 0; low_y = pos 0; high_x = pos 0; high_y = pos 0 }

-- the position is in the box
pub record HoldsPoint (e : Extent) (p : Point) : Type 0 where
  pub low_x : e.low_x ≤ℤ p.x
  pub low_y : e.low_y ≤ℤ p.y
  pub high_x : p.x ≤ℤ e.high_x
  pub high_y : p.y ≤ℤ e.high_y

-- the same, as a test
unfoldable pub is_within : Extent → Point → Bool
is_within e p = int_le e.low_x p.x && (int_le p.x e.high_x && (int_le e.low_y p.y && int_le p.y e.high_y))

-- the first is in the second
pub record LiesIn (e f : Extent) : Type 0 where
  pub low_x : f.low_x ≤ℤ e.low_x
  pub low_y : f.low_y ≤ℤ e.low_y
  pub high_x : e.high_x ≤ℤ f.high_x
  pub high_y : e.high_y ≤ℤ f.high_y
