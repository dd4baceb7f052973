-- Worked rows of lines that are reduced at thresholds above zero, computed from the definitions.
use Rattle.std.proofs.Common.{◌≡◌, negsuc, true, false, List, [], ◌∷◌, map, Some, None, refl}
use Rattle.build_meaning.proofs.Names.{cross, twice_area, shoelace, Point, Collapsed, Small, Stroke, is_before, reduced, all_arcs, kept_refs, own_cause, rebuilt, cleaned, kept_line, same}
use Rattle.build_meaning.proofs.SimplifiedRows.{at}

-- ---- a line and its reverse: one arc, in which two corners have twice the area 2, and the lesser position goes first

abbrev line : List Point
line = at 4 0 ∷ (at 2 0 ∷ (at 1 1 ∷ (at 0 0 ∷ [])))

abbrev reversed_line : List Point
reversed_line = at 0 0 ∷ (at 1 1 ∷ (at 2 0 ∷ (at 4 0 ∷ [])))

abbrev both : List Stroke
both = cleaned false line ∷ (cleaned false reversed_line ∷ [])

one_arc : map (reduced 3) (all_arcs both) ≡ (at 4 0 ∷ (at 0 0 ∷ [])) ∷ []
unfolding same reduced is_before twice_area cross
one_arc = refl

one_arc_backwards : kept_refs both 3 0 false reversed_line ≡ Some (negsuc 0 ∷ [])
unfolding same reduced is_before twice_area cross shoelace
one_arc_backwards = refl

same_positions : kept_line both 3 0 false reversed_line ≡ Some (at 0 0 ∷ (at 4 0 ∷ []))
unfolding same reduced is_before twice_area cross shoelace
same_positions = refl

-- ---- a polygon with a small hole, an island in the hole, and a line of two equal positions

abbrev shell : List Point
shell = at 0 0 ∷ (at 10 0 ∷ (at 10 10 ∷ (at 0 10 ∷ (at 0 0 ∷ []))))

abbrev hole : List Point
hole = at 4 4 ∷ (at 4 5 ∷ (at 5 4 ∷ (at 4 4 ∷ [])))

abbrev island : List Point
island = at 4 4 ∷ (at 5 4 ∷ (at 4 5 ∷ (at 4 4 ∷ [])))

abbrev point_line : List Point
point_line = at 20 0 ∷ (at 20 0 ∷ [])

abbrev holed : List Stroke
holed = cleaned true shell ∷ (cleaned true hole ∷ (cleaned true island ∷ (cleaned false (at 20 0 ∷ (at 30 0 ∷ [])) ∷ [])))

shell_stays : own_cause holed 2 0 true shell ≡ None
unfolding same reduced is_before twice_area cross shoelace
shell_stays = refl

hole_goes : own_cause holed 2 0 true hole ≡ Some Small
unfolding same reduced is_before twice_area cross shoelace
hole_goes = refl

island_goes : own_cause holed 2 0 true island ≡ Some Small
unfolding same reduced is_before twice_area cross shoelace
island_goes = refl

-- twice the area of the hole is 1: it stays at that limit, and goes above it; the shell's isn't less for its hole
hole_stays_at_its_area : own_cause holed 0 1 true hole ≡ None
unfolding same reduced is_before twice_area cross shoelace
hole_stays_at_its_area = refl

hole_is_under : own_cause holed 0 2 true hole ≡ Some Small
unfolding same reduced is_before twice_area cross shoelace
hole_is_under = refl

shell_stays_with_hole : own_cause holed 0 200 true shell ≡ None
unfolding same reduced is_before twice_area cross shoelace
shell_stays_with_hole = refl

both_stay_at_one : own_cause holed 1 0 true island ≡ None
unfolding same reduced is_before twice_area cross shoelace
both_stay_at_one = refl

point_line_collapses : own_cause holed 2 0 false point_line ≡ Some Collapsed
unfolding same
point_line_collapses = refl

-- ---- a loop in a line: its two ends stay, as equal neighbours

abbrev looped : List Point
looped = at 0 2 ∷ (at 2 2 ∷ (at 3 2 ∷ (at 2 3 ∷ (at 2 2 ∷ (at 2 0 ∷ [])))))

loop_ends_stay : rebuilt (cleaned false looped ∷ []) 2 false looped ≡ at 0 2 ∷ (at 2 2 ∷ (at 2 2 ∷ (at 2 0 ∷ [])))
unfolding same reduced is_before twice_area cross
loop_ends_stay = refl

loop_is_kept : own_cause (cleaned false looped ∷ []) 2 0 false looped ≡ None
unfolding same reduced is_before twice_area cross shoelace
loop_is_kept = refl

-- a line that is such a loop alone is left with one position
abbrev triangle : List Point
triangle = at 0 0 ∷ (at 1 0 ∷ (at 0 1 ∷ (at 0 0 ∷ [])))

-- a line that is a loop alone isn't dropped by a limit of rings
triangle_is_no_ring : own_cause (cleaned false triangle ∷ []) 0 2 false triangle ≡ None
unfolding same reduced is_before twice_area cross shoelace
triangle_is_no_ring = refl

triangle_goes : own_cause (cleaned false triangle ∷ []) 2 0 false triangle ≡ Some Small
unfolding same reduced is_before twice_area cross shoelace
triangle_goes = refl
