-- The order of positions: by x and then by y.
use Rattle.std.specs.Prelude.{Bool, false, List, [], ◌∷◌, if◌then◌else◌}
use Rattle.std.specs.Ordering.{ordering_then, int_cmp, is_lt}
use Rattle.std.specs.declared.cmp.Ordering.{Ordering}
use Rattle.geometry.specs.Points.{Point}
use Rattle.geometry.specs.Rings.{same}

abbrev pub point_cmp : Point → Point → Ordering
point_cmp p q = ordering_then (int_cmp p.x q.x) (int_cmp p.y q.y)

-- the first goes before the second
abbrev pub is_before : Point → Point → Bool
is_before p q = is_lt (point_cmp p q)

-- the least of a position and more of them
abbrev pub least_of : Point → List Point → Point
least_of p [] = p
least_of p (q ∷ qs) = least_of (if is_before q p then q else p) qs

-- it is the least of the positions
abbrev pub is_least : Point → List Point → Bool
is_least p [] = false
is_least p (q ∷ qs) = same p (least_of q qs)
