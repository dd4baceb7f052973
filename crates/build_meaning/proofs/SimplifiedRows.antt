-- Worked rows of topologies whose arcs are reduced, computed from the definitions. The fold of a shape is opened by its kind.
use Rattle.std.proofs.Common.{◌≡◌, ◌==◌, ℕ, ◌-◌, ℤ, pos, negsuc, Bool, true, false, List, [], ◌∷◌, Option, None, Some, refl, ap, ◌∙◌}
use Rattle.build_meaning.proofs.Names.{list_any, prune-line, prune-area, lines_and_rings-line, lines_and_rings-area, drop_causes-area, drop_causes-line, cross, twice_area, shoelace, drop_causes, number_of, Point, prune, same, Small, Outer, TopoShape, Contents, objects_lines_and_rings, TopoFeature, TopoObject, One, Many, is_before, reduce, positions_of, is_used, keep_from, line_renumbered, trimmed, retained_arcs, small_cause, large_refs, retained_whole, simplified_by, dropped_by, removed_count_by, reduced_indexes}
use Rattle.geometry.specs.declared.shape.Geometry.TheVariants as g

abbrev pub at : ℕ → ℕ → Point
at x y = record { x = pos x; y = pos y }

abbrev pub feature : Option TopoShape → TopoFeature
feature s = record { id = None; properties = None; shape = s }

-- one object of two features
abbrev pub two : Option TopoShape → Option TopoShape → List (List ℕ × TopoObject)
two s t = ((97 ∷ []), Many (feature s ∷ (feature t ∷ []))) ∷ []

-- ---- a square of side 10 with a triangle as its hole, and an open line on a third arc, backwards

abbrev pub square : List Point
square = at 0 0 ∷ (at 10 0 ∷ (at 10 10 ∷ (at 0 10 ∷ (at 0 0 ∷ []))))

abbrev pub triangle : List Point
triangle = at 2 2 ∷ (at 3 2 ∷ (at 2 3 ∷ (at 2 2 ∷ [])))

abbrev pub bent : List Point
bent = at 20 0 ∷ (at 21 1 ∷ (at 23 0 ∷ []))

abbrev rings : List (List ℤ)
rings = (pos 0 ∷ []) ∷ ((pos 1 ∷ []) ∷ [])

abbrev holed : Contents
holed = record { objects = two (Some (g.Area rings)) (Some (g.Line (negsuc 2 ∷ []))); arcs = square ∷ (triangle ∷ (bent ∷ [])); transform = None }

abbrev fewer : List (List Point)
fewer = square ∷ ((at 2 2 ∷ (at 2 2 ∷ [])) ∷ (bent ∷ []))

-- at a threshold of 2 the triangle, of twice the area 1, is left with its two ends, and the bent line, of 3, stays
holed_indexes : reduced_indexes 2 holed ≡ (0 ∷ (1 ∷ (2 ∷ (3 ∷ (4 ∷ []))))) ∷ ((0 ∷ (3 ∷ [])) ∷ ((0 ∷ (1 ∷ (2 ∷ []))) ∷ []))
unfolding reduce is_before twice_area cross
holed_indexes = refl

holed_arcs : retained_arcs (reduced_indexes 2 holed) holed.arcs ≡ fewer
unfolding reduce is_before twice_area cross
holed_arcs = refl

holed_area : prune (λ (p : Point). p) (large_refs 0 fewer) (g.Area rings) ≡ Some (g.Area ((pos 0 ∷ []) ∷ []))
unfolding same shoelace
holed_area = prune-area (λ (p : Point). p) (large_refs 0 fewer) rings

holed_line : prune (λ (p : Point). p) (large_refs 0 fewer) (g.Line (negsuc 2 ∷ [])) ≡ Some (g.Line (negsuc 2 ∷ []))
unfolding same shoelace
holed_line = prune-line (λ (p : Point). p) (large_refs 0 fewer) (negsuc 2 ∷ [])

-- what is left before arcs are left out
abbrev left : Contents
left = record { objects = two (Some (g.Area ((pos 0 ∷ []) ∷ []))) (Some (g.Line (negsuc 2 ∷ []))); arcs = fewer; transform = None }

holed_left : retained_whole (reduced_indexes 2 holed) 0 holed ≡ left
holed_left = simp (holed_arcs, holed_area, holed_line)

abbrev names : List (Bool × List ℤ)
names = (true, pos 0 ∷ []) ∷ ((false, negsuc 2 ∷ []) ∷ [])

left_lines_and_rings : objects_lines_and_rings left.objects ≡ names
left_lines_and_rings = simp (lines_and_rings-area, lines_and_rings-line)

abbrev used_in : List (Bool × List ℤ) → ℕ → Bool
used_in bs i = list_any (λ b. list_any (λ r. number_of r == i) b.1) bs

-- without the triangle, and the third arc is the second
abbrev simplified_holed : Contents
simplified_holed = record { objects = two (Some (g.Area ((pos 0 ∷ []) ∷ []))) (Some (g.Line (negsuc 1 ∷ []))); arcs = square ∷ (bent ∷ []); transform = None }

abbrev trimmed_by : (ℕ → Bool) → Contents
trimmed_by u =
    record {
      objects = two (prune (λ p. p) (line_renumbered u) (g.Area ((pos 0 ∷ []) ∷ []))) (prune (λ p. p) (line_renumbered u) (g.Line (negsuc 2 ∷ [])));
      arcs = keep_from u 0 fewer;
      transform = None;
    }

holed_at_two : simplified_by (reduced_indexes 2 holed) 0 holed ≡ simplified_holed
unfolding simplified_by trimmed number_of
holed_at_two =
    ap trimmed holed_left
    ∙ ap (λ bs. trimmed_by (used_in bs)) left_lines_and_rings
    ∙ ap (λ s. record { objects = two s (prune (λ p. p) (line_renumbered (used_in names)) (g.Line (negsuc 2 ∷ []))); arcs = square ∷ (bent ∷ []); transform = None })
    (prune-area (λ (p : Point). p) (line_renumbered (used_in names)) ((pos 0 ∷ []) ∷ []))
    ∙ ap (λ s. record { objects = two (Some (g.Area ((pos 0 ∷ []) ∷ []))) s; arcs = square ∷ (bent ∷ []); transform = None })
    (prune-line (λ (p : Point). p) (line_renumbered (used_in names)) (negsuc 2 ∷ []))

-- the hole is reported, as Small
holed_dropped : dropped_by (reduced_indexes 2 holed) 0 holed ≡ record { address = record { layer = 0; feature = 0; path = 1 ∷ [] }; cause = Small } ∷ []
unfolding dropped_by same shoelace
holed_dropped = simp (holed_arcs, drop_causes-area, drop_causes-line)

-- of the arcs that stay nothing is removed: the triangle's isn't counted
holed_removed_count : removed_count_by (reduced_indexes 2 holed) 0 holed ≡ 0
unfolding removed_count_by simplified_by trimmed number_of
holed_removed_count =
    ap (λ y. positions_of (keep_from (is_used y.objects) 0 holed.arcs) - positions_of (trimmed y).arcs) holed_left
    ∙ ap (λ bs. positions_of (keep_from (used_in bs) 0 holed.arcs) - positions_of (keep_from (used_in bs) 0 fewer)) left_lines_and_rings

-- ---- where the outer ring is the triangle, the square goes with it

abbrev swapped : List (List ℤ)
swapped = (pos 1 ∷ []) ∷ ((pos 0 ∷ []) ∷ [])

swapped_area : prune (λ (p : Point). p) (large_refs 0 fewer) (g.Area swapped) ≡ None
unfolding same shoelace
swapped_area = prune-area (λ (p : Point). p) (large_refs 0 fewer) swapped

swapped_dropped : drop_causes {P = Point} (small_cause 0 fewer) (g.Area swapped) ≡ record { path = 0 ∷ []; part = Small } ∷ (record { path = 1 ∷ []; part = Outer } ∷ [])
unfolding same shoelace
swapped_dropped = drop_causes-area Point (List ℤ) (small_cause 0 fewer) swapped

-- by a limit above its area, twice which is 1, the triangle is small as well, and at that limit it stays, in both directions
swapped_under : drop_causes {P = Point} (small_cause 2 holed.arcs) (g.Area swapped) ≡ record { path = 0 ∷ []; part = Small } ∷ (record { path = 1 ∷ []; part = Outer } ∷ [])
unfolding same shoelace
swapped_under = drop_causes-area Point (List ℤ) (small_cause 2 holed.arcs) swapped

triangle_at_limit : small_cause 1 holed.arcs true (pos 1 ∷ []) ≡ None
unfolding same shoelace
triangle_at_limit = refl

backwards_under : small_cause 2 holed.arcs true (negsuc 1 ∷ []) ≡ Some Small
unfolding same shoelace
backwards_under = refl

-- an open line encloses nothing
line_stays : small_cause 2 holed.arcs false (pos 1 ∷ []) ≡ None
unfolding same shoelace
line_stays = refl

-- ---- a geometry object that is no collection stands in the place of a layer, and is its feature 0

abbrev lone : Contents
lone =
    record { objects = ((97 ∷ []), Many []) ∷ (((98 ∷ []), One (feature (Some (g.Line (pos 0 ∷ []))))) ∷ []); arcs = triangle ∷ []; transform = None }

abbrev lone_fewer : List (List Point)
lone_fewer = (at 2 2 ∷ (at 2 2 ∷ [])) ∷ []

lone_arcs : retained_arcs (reduced_indexes 2 lone) lone.arcs ≡ lone_fewer
unfolding reduce is_before twice_area cross
lone_arcs = refl

lone_dropped : dropped_by (reduced_indexes 2 lone) 0 lone ≡ record { address = record { layer = 1; feature = 0; path = [] }; cause = Small } ∷ []
unfolding dropped_by same shoelace
lone_dropped = simp (lone_arcs, drop_causes-line)
