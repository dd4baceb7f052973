-- What is asked of places and their positions.
use Rattle.std.specs.Prelude.{◌≡◌, ℕ, ◌==◌, Bool, true, not, ◌&&◌}
use Rattle.geometry.specs.Points.{Point}
use Rattle.guarded_meaning.specs.Triangles.{is_clear}
use Rattle.planar_predicates.specs.declared.extent.Extent.{Extent}
use Rattle.guarded_reduction.specs.declared.index.corner.Corner.{Corner}
use Rattle.planar_predicates.specs.Extents.{HoldsPoint}

abbrev pub Test : Type 0
Test = ℕ → Point → Bool

-- the box holds whatever meets the test
pub record Reaches (e : Extent) (test : Test) : Type 0 where
  pub holds : (z : ℕ) (p : Point) → test z p ≡ true → HoldsPoint e p

-- the box holds nothing that meets the test
pub record IsOutside (e : Extent) (test : Test) : Type 0 where
  pub fails : (z : ℕ) (p : Point) → HoldsPoint e p → test z p ≡ true → ⊥

-- a place other than the corner's own, at this position, holds it
unfoldable pub is_held_by : Corner → ℕ → Point → Bool
is_held_by c z p = not (z == c.place) && not (is_clear c.before c.at c.after p)
