-- Segments as keys: which are one.
use Rattle.std.specs.Prelude.{◌≡◌, true, ◌&&◌}
use Rattle.std.specs.Ordering.{int_eq}
use Rattle.std.proofs.Common.{arith, refl}
use Rattle.std.proofs.lemmas.Bool.{and_parts}
use Rattle.cutter.specs.Segments.{Segment}
use Rattle.geometry.specs.Rings.{same}
use Rattle.geometry.proofs.Points.{same_is, same_self}
use Rattle.arc_table.specs.Ends.{equal}

pub equal_segments : (s t : Segment) → equal s t ≡ true → s ≡ t
equal_segments s t h = grind (arith, and_parts (same s.from t.from) (same s.to t.to), same_is s.from t.from, same_is s.to t.to)

pub equal_itself : (s : Segment) → equal s s ≡ true
equal_itself s = grind (arith, same_self)

-- segments are equal where all four coordinates are
pub equal_same_segment : (s t : Segment) → ((int_eq s.from.x t.from.x && int_eq s.from.y t.from.y) && (int_eq s.to.x t.to.x && int_eq s.to.y t.to.y)) ≡ equal s t
unfolding same
equal_same_segment s t = refl
