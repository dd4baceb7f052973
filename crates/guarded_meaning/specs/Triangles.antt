-- Which positions are in a closed triangle, and which keep a corner from going.
use Rattle.std.specs.Prelude.{Bool, not, ◌&&◌, ◌||◌}
use Rattle.geometry.specs.Points.{Point}
use Rattle.guarded_meaning.specs.Segments.{is_left, is_right, is_flat, is_on, is_end}

-- it is to the right of no side
abbrev pub none_right : Point → Point → Point → Point → Bool
none_right a p c q = not (is_right a p q) && (not (is_right p c q) && not (is_right c a q))

-- it is to the left of no side
abbrev pub none_left : Point → Point → Point → Point → Bool
none_left a p c q = not (is_left a p q) && (not (is_left p c q) && not (is_left c a q))

-- On a side of the triangle, or within it where the three don't lie on one line. Where they do, the sides are the segment over
-- all three.
unfoldable pub in_triangle : Point → Point → Point → Point → Bool
in_triangle a p c q = is_on a c q || (is_on a p q || (is_on p c q || (not (is_flat a p c) && (none_right a p c q || none_left a p c q))))

-- the corner at p between a and c can go as far as q is concerned: it is a or c, or not in their triangle
abbrev pub is_clear : Point → Point → Point → Point → Bool
is_clear a p c q = is_end a c q || not (in_triangle a p c q)
