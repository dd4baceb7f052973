-- What holds a corner is in its box.
use Rattle.std.proofs.Common.{◌≡◌, ℕ, true, not, arith}
use Rattle.std.proofs.lemmas.Bool.{and_parts}
use Rattle.geometry.specs.Points.{Point}
use Rattle.guarded_meaning.specs.Laws.{IsInBox, BoxLaw}
use Rattle.guarded_meaning.specs.Triangles.{is_clear, in_triangle}
use Rattle.planar_predicates.specs.declared.extent.Extent.{Extent}
use Rattle.guarded_reduction.specs.declared.index.corner.Corner.{Corner}
use Rattle.planar_predicates.specs.Extents.{HoldsPoint}
use Rattle.guarded_reduction.specs.Tests.{Reaches, IsOutside, is_held_by}

not_clear : (a p c q : Point) → not (is_clear a p c q) ≡ true → in_triangle a p c q ≡ true
not_clear a p c q h = grind arith

held_in : (c : Corner) (z : ℕ) (p : Point) → is_held_by c z p ≡ true → in_triangle c.before c.at c.after p ≡ true
unfolding is_held_by
held_in c z p h = not_clear c.before c.at c.after p (and_parts _ _ h).1

pub holds_triangle : (law : BoxLaw) (e : Extent) (c : Corner) → HoldsPoint e c.before → HoldsPoint e c.at → HoldsPoint e c.after → (q : Point) → in_triangle c.before c.at c.after q ≡ true → HoldsPoint e q
holds_triangle law e c a p b q h = in_box (law c.before c.at c.after q h)
  where
    in_box : IsInBox c.before c.at c.after q → HoldsPoint e q
    in_box i = record {
      low_x = i.left e.low_x a.low_x p.low_x b.low_x;
      low_y = i.below e.low_y a.low_y p.low_y b.low_y;
      high_x = i.right e.high_x a.high_x p.high_x b.high_x;
      high_y = i.above e.high_y a.high_y p.high_y b.high_y;
    }

pub reaches : (e : Extent) (c : Corner) → ((q : Point) → in_triangle c.before c.at c.after q ≡ true → HoldsPoint e q) → Reaches e (is_held_by c)
reaches e c n = record { holds = λ z q h. n q (held_in c z q h) }

-- a box that holds nothing of the corner's triangle holds none that holds the corner
pub outside : (e : Extent) (c : Corner) → ((q : Point) → HoldsPoint e q → in_triangle c.before c.at c.after q ≡ true → ⊥) → IsOutside e (is_held_by c)
outside e c n = record { fails = λ z q h t. n q h (held_in c z q t) }
