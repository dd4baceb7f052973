-- Which corners may go where no crossing may be made, and where rings have to stay.
use Rattle.std.specs.Prelude.{ℕ, ℤ, ◌==◌, Bool, true, not, ◌&&◌, ◌||◌, List, map}
use Rattle.std.specs.List.{list_all, list_any}
use Rattle.geometry.specs.Joins.{arc_at, stitched, number_of}
use Rattle.geometry.specs.Points.{Point}
use Rattle.geometry.specs.Rings.{same}
use Rattle.junctions.specs.Cleaning.{clean, is_short}
use Rattle.guarded_meaning.specs.Arcs.{places, is_place_of, all_neighbours, segment_of, is_pair_of, left_by, points_of}
use Rattle.guarded_meaning.specs.Elimination.{Guard}
use Rattle.guarded_meaning.specs.Segments.{segment, same_ends}
use Rattle.guarded_meaning.specs.Triangles.{is_clear}

-- ---- no crossings

-- no place but the corner's own is in its triangle, unless it is at the position of the one before it or of the one after it
abbrev pub has_empty_triangle : Guard
has_empty_triangle arcs c = list_all (λ x. is_place_of c x || is_clear c.before c.corner.point c.after x.vertex.point) (places 0 arcs)

-- the positions before and after it are one, or no neighbours but its own pairs are at these two, in either order
abbrev pub has_open_base : Guard
has_open_base arcs c = same c.before c.after || list_all (λ n. is_pair_of c n || not (same_ends (segment c.before c.after) (segment_of n))) (all_neighbours 0 arcs)

-- it can go without a crossing
unfoldable pub is_free : Guard
is_free arcs c = has_empty_triangle arcs c && has_open_base arcs c

-- ---- rings that stay

-- the ring of these arc indexes, with equal neighbours as one position
abbrev pub ring_of : List (List Point) → List ℤ → List Point
ring_of arcs refs = clean (stitched (map (arc_at arcs) refs))

-- four positions or more are left to it
abbrev pub is_long : List (List Point) → List ℤ → Bool
is_long arcs refs = not (is_short true (ring_of arcs refs))

-- it goes along the arc of this number, in either direction
abbrev pub uses : ℕ → List ℤ → Bool
uses k refs = list_any (λ r. number_of r == k) refs

-- each of these rings that uses the corner's arc has four positions or more when the corner is gone
unfoldable pub keeps_rings : List (List ℤ) → Guard
keeps_rings rings arcs c = list_all (λ refs. not (uses c.arc refs) || is_long (points_of (left_by arcs c)) refs) rings

-- ---- both

-- the corner can go without a crossing, where that is asked for, and keeps these rings
abbrev pub guarded_by : Bool → List (List ℤ) → Guard
guarded_by no_crossings rings arcs c = (not no_crossings || is_free arcs c) && keeps_rings rings arcs c
