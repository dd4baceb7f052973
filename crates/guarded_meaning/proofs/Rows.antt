-- Worked segments and triangles, and the worked rows of guarded reduction in whole units.
use Rattle.std.proofs.Common.{◌≡◌, ℕ, ◌-◌, ℤ, pos, negsuc, Bool, true, false, List, [], ◌∷◌, Some, None, refl}
use Rattle.guarded_meaning.proofs.Names.{cross, twice_area, number_of, Point, same, crossings, goes_before, reduced_arcs, is_free, keeps_rings, guarded_by, Segment, segment, is_on, touches, separates, crosses, same_ends, meets_badly, share, chosen, in_triangle, interior_weights}

abbrev at : ℕ → ℕ → Point
at x y = record { x = pos x; y = pos y }

-- as far under zero as the second number says, which is over zero
abbrev below : ℕ → ℕ → Point
below x y = record { x = pos x; y = negsuc (y - 1) }

abbrev from_to : ℕ → ℕ → ℕ → ℕ → Segment
from_to x y z w = segment (at x y) (at z w)

-- ---- on a segment: inside, an end, beyond it, beside it, on an upright one, and where both ends are one

on_a_segment : (is_on (at 0 0) (at 4 2) (at 2 1) ≡ true) × (is_on (at 0 0) (at 4 2) (at 4 2) ≡ true) × (is_on (at 0 0) (at 4 2) (at 6 3) ≡ false) × (is_on (at 0 0) (at 4 2) (at 2 2) ≡ false)
    × (is_on (at 3 5) (at 3 0) (at 3 1) ≡ true) × (is_on (at 1 1) (at 1 1) (at 1 1) ≡ true) × (is_on (at 1 1) (at 1 1) (at 2 2) ≡ false)
on_a_segment = unfold is_on cross in (refl, refl, refl, refl, refl, refl, refl)

-- ---- two segments

-- a cross and a T, of which the T doesn't cross; two apart, and two of which only the lines cross
crossed : (meets_badly (from_to 0 0 4 4) (from_to 0 4 4 0) ≡ true) × (crosses (from_to 0 0 4 4) (from_to 0 4 4 0) ≡ true)
    × (meets_badly (from_to 0 0 4 0) (from_to 2 0 2 3) ≡ true) × (crosses (from_to 0 0 4 0) (from_to 2 0 2 3) ≡ false)
    × (meets_badly (from_to 0 0 4 0) (from_to 0 1 4 2) ≡ false) × (meets_badly (from_to 0 0 4 0) (from_to 2 1 2 3) ≡ false)
crossed = unfold meets_badly same_ends crosses separates touches is_on same cross in (refl, refl, refl, refl, refl, refl)

-- an end in common: at an angle, straight on, and back over the first
end_in_common : (meets_badly (from_to 0 0 4 0) (from_to 4 0 4 3) ≡ false) × (meets_badly (from_to 0 0 4 0) (from_to 4 0 9 0) ≡ false) × (meets_badly (from_to 0 0 4 0) (from_to 4 0 1 0) ≡ true)
end_in_common = unfold meets_badly same_ends crosses separates touches is_on same cross in (refl, refl, refl)

-- on one line: a part in common, one within the other, and nothing in common
on_one_line : (meets_badly (from_to 0 0 4 0) (from_to 2 0 9 0) ≡ true) × (meets_badly (from_to 0 0 9 0) (from_to 2 0 4 0) ≡ true) × (meets_badly (from_to 0 0 4 0) (from_to 5 0 9 0) ≡ false)
on_one_line = unfold meets_badly same_ends crosses separates touches is_on same cross in (refl, refl, refl)

-- the same two ends, also in the other order
the_same : (meets_badly (from_to 0 0 4 1) (from_to 0 0 4 1) ≡ true) × (meets_badly (from_to 0 0 4 1) (from_to 4 1 0 0) ≡ true)
the_same = unfold meets_badly same_ends crosses separates touches is_on same cross in (refl, refl)

-- a segment whose ends are one: at an end of another, inside it, and twice
no_length : (meets_badly (from_to 4 0 4 0) (from_to 0 0 4 0) ≡ false) × (meets_badly (from_to 2 0 2 0) (from_to 0 0 4 0) ≡ true) × (meets_badly (from_to 2 0 2 0) (from_to 2 0 2 0) ≡ true)
no_length = unfold meets_badly same_ends crosses separates touches is_on same cross in (refl, refl, refl)

-- ---- a triangle

abbrev has : Point → Bool
has = in_triangle (at 0 0) (at 2 4) (at 6 0)

-- within it, also the other way around, on its base, on a side, at its top; outside, and outside on the line of a side
in_it : (has (at 2 1) ≡ true) × (in_triangle (at 6 0) (at 2 4) (at 0 0) (at 2 1) ≡ true) × (has (at 3 0) ≡ true) × (has (at 1 2) ≡ true) × (has (at 2 4) ≡ true)
    × (has (at 5 3) ≡ false) × (has (at 8 0) ≡ false)
in_it = unfold in_triangle is_on cross in (refl, refl, refl, refl, refl, refl, refl)

-- flat, with its middle between the others or beyond one of them
flat : (in_triangle (at 0 0) (at 2 0) (at 6 0) (at 4 0) ≡ true) × (in_triangle (at 0 0) (at 2 0) (at 6 0) (at 4 1) ≡ false) × (in_triangle (at 0 0) (at 2 0) (at 6 0) (at 7 0) ≡ false)
    × (in_triangle (at 0 0) (at 9 0) (at 6 0) (at 8 0) ≡ true)
flat = unfold in_triangle is_on cross in (refl, refl, refl, refl)

-- where both its ends are one, and where all three are
a_spike : (in_triangle (at 0 0) (at 4 0) (at 0 0) (at 2 0) ≡ true) × (in_triangle (at 0 0) (at 4 0) (at 0 0) (at 5 0) ≡ false) × (in_triangle (at 1 1) (at 1 1) (at 1 1) (at 2 2) ≡ false)
a_spike = unfold in_triangle is_on cross in (refl, refl, refl)

-- ---- reductions: whether crossings are to be avoided, the rings that are to stay, and the threshold

abbrev reduction : Bool → List (List ℤ) → ℕ → List (List Point) → List (List Point)
reduction no_crossings rings t arcs = reduced_arcs (guarded_by no_crossings rings) t arcs

abbrev two_lines : List Point → List Point → List (List Point)
two_lines ps qs = ps ∷ (qs ∷ [])

-- a roof stays over a line whose end is in its triangle, or on its base
abbrev roof : List Point
roof = at 0 0 ∷ (at 2 2 ∷ (at 4 0 ∷ []))

abbrev under_roof : List Point
under_roof = at 2 1 ∷ (below 2 5 ∷ [])

abbrev at_base : List Point
at_base = at 2 0 ∷ (below 2 5 ∷ [])

held : (reduction true [] 10 (two_lines roof under_roof) ≡ two_lines roof under_roof) × (reduction true [] 2000000000000000000 (two_lines roof under_roof) ≡ two_lines roof under_roof)
    × (reduction false [] 10 (two_lines roof under_roof) ≡ two_lines (at 0 0 ∷ (at 4 0 ∷ [])) under_roof) × (reduction true [] 10 (two_lines roof at_base) ≡ two_lines roof at_base)
held = unfold reduced_arcs keeps_rings goes_before twice_area is_free in_triangle same_ends is_on same cross in (refl, refl, refl, refl)

-- a corner is held until the one in its triangle goes
abbrev tower : List Point
tower = below 0 4 ∷ (at 2 1 ∷ (below 4 4 ∷ []))

over_tower : (reduction true [] 20 (two_lines roof tower) ≡ two_lines roof tower)
    × (reduction true [] 30 (two_lines roof tower) ≡ two_lines (at 0 0 ∷ (at 4 0 ∷ [])) (below 0 4 ∷ (below 4 4 ∷ [])))
over_tower = unfold reduced_arcs keeps_rings goes_before twice_area is_free in_triangle same_ends is_on same cross in (refl, refl)

-- the first of two corners over one base goes, and then the other stays
base_joined : reduction true [] 10 (two_lines (at 0 0 ∷ (at 2 1 ∷ (at 4 0 ∷ []))) (at 4 0 ∷ (below 2 2 ∷ (at 0 0 ∷ [])))) ≡
    two_lines (at 0 0 ∷ (at 4 0 ∷ [])) (at 4 0 ∷ (below 2 2 ∷ (at 0 0 ∷ [])))
base_joined = unfold reduced_arcs keeps_rings goes_before twice_area is_free in_triangle same_ends is_on same cross in refl

-- three on one line, of which the middle one reaches over the end of another line; and where nothing is in the way a corner goes
abbrev beyond : List (List Point)
beyond = two_lines (at 0 0 ∷ (at 5 0 ∷ (at 2 0 ∷ (at 2 4 ∷ [])))) (at 4 0 ∷ (below 4 3 ∷ []))

held_or_alone : (reduction true [] 10 beyond ≡ beyond) × (reduction true [] 30 ((at 0 0 ∷ (at 1 5 ∷ (at 5 0 ∷ []))) ∷ []) ≡ (at 0 0 ∷ (at 5 0 ∷ [])) ∷ [])
held_or_alone = unfold reduced_arcs keeps_rings goes_before twice_area is_free in_triangle same_ends is_on same cross in (refl, refl)

-- rings: a triangle stays, a square becomes one, and without a guard nothing is left of them
abbrev three : List Point
three = at 0 0 ∷ (at 1 0 ∷ (at 0 1 ∷ (at 0 0 ∷ [])))

abbrev square : List Point
square = at 10 10 ∷ (at 14 10 ∷ (at 14 14 ∷ (at 10 14 ∷ (at 10 10 ∷ []))))

rings_close : (reduction true [] 200 (two_lines three square) ≡ two_lines three (at 10 10 ∷ (at 14 10 ∷ (at 14 14 ∷ (at 10 10 ∷ [])))))
    × (reduction false [] 200 (two_lines three square) ≡ two_lines (at 0 0 ∷ (at 0 0 ∷ [])) (at 10 10 ∷ (at 10 10 ∷ [])))
rings_close = unfold reduced_arcs keeps_rings goes_before twice_area is_free in_triangle same_ends is_on same cross in (refl, refl)

-- the rings of the first arc and of the third stay
abbrev lesser_ring : List Point
lesser_ring = at 20 20 ∷ (at 21 20 ∷ (at 20 21 ∷ (at 20 20 ∷ [])))

abbrev greater_ring : List Point
greater_ring = at 10 10 ∷ (at 12 10 ∷ (at 10 12 ∷ (at 10 10 ∷ [])))

shapes_stay : reduction false ((pos 0 ∷ []) ∷ ((pos 2 ∷ []) ∷ [])) 200 (three ∷ (lesser_ring ∷ (greater_ring ∷ []))) ≡ three ∷ ((at 20 20 ∷ (at 20 20 ∷ [])) ∷ (greater_ring ∷ []))
shapes_stay = unfold reduced_arcs keeps_rings number_of goes_before twice_area same cross in refl

-- A spike of a ring stays where without it, and with equal neighbours as one, three positions would be left. Without a guard it goes first,
-- and then both of the others, which lie on the way back.
abbrev spiked : List (List Point)
spiked = (at 0 0 ∷ (at 4 0 ∷ (at 5 1 ∷ (at 4 0 ∷ (at 0 0 ∷ []))))) ∷ []

spike_stays : (reduction false ((pos 0 ∷ []) ∷ []) 1 spiked ≡ spiked) × (reduction false [] 1 spiked ≡ (at 0 0 ∷ (at 0 0 ∷ [])) ∷ [])
spike_stays = unfold reduced_arcs keeps_rings number_of goes_before twice_area same cross in (refl, refl)

-- two squares with an arc in common, which the second goes along backwards
abbrev in_common : List Point
in_common = at 1 0 ∷ (at 1 1 ∷ [])

abbrev two_squares : List (List Point)
two_squares = in_common ∷ ((at 1 1 ∷ (at 0 1 ∷ (at 0 0 ∷ (at 1 0 ∷ [])))) ∷ ((at 1 0 ∷ (at 2 0 ∷ (at 2 1 ∷ (at 1 1 ∷ [])))) ∷ []))

abbrev two_triangles : List (List Point)
two_triangles = in_common ∷ ((at 1 1 ∷ (at 0 1 ∷ (at 1 0 ∷ []))) ∷ ((at 1 0 ∷ (at 2 1 ∷ (at 1 1 ∷ []))) ∷ []))

abbrev their_rings : List (List ℤ)
their_rings = (pos 0 ∷ (pos 1 ∷ [])) ∷ ((pos 2 ∷ (negsuc 0 ∷ [])) ∷ [])

squares_stay : (reduction false their_rings 200 two_squares ≡ two_triangles) × (reduction true [] 200 two_squares ≡ two_triangles)
squares_stay = unfold reduced_arcs keeps_rings number_of goes_before twice_area is_free in_triangle same_ends is_on same cross in (refl, refl)

-- of a line that comes back to where it began the middle goes, unless another line begins on its way
abbrev there_and_back : List (List Point)
there_and_back = (at 0 0 ∷ (at 4 2 ∷ (at 0 0 ∷ []))) ∷ ((at 0 0 ∷ (at 5 5 ∷ [])) ∷ ((at 20 0 ∷ (at 24 2 ∷ (at 20 0 ∷ []))) ∷ ((at 20 0 ∷ (at 25 5 ∷ [])) ∷ ((at 22 1 ∷ (below 22 3 ∷ [])) ∷ []))))

one_comes_back : reduction true [] 2 there_and_back ≡
    (at 0 0 ∷ (at 0 0 ∷ [])) ∷ ((at 0 0 ∷ (at 5 5 ∷ [])) ∷ ((at 20 0 ∷ (at 24 2 ∷ (at 20 0 ∷ []))) ∷ ((at 20 0 ∷ (at 25 5 ∷ [])) ∷ ((at 22 1 ∷ (below 22 3 ∷ [])) ∷ []))))
one_comes_back = unfold reduced_arcs keeps_rings goes_before twice_area is_free in_triangle same_ends is_on same cross in refl

-- ---- weights and shares

-- (0,3) is held by (2,2), so (4,0) goes first, with 8; then (0,3) goes, with 0, and has the greatest area so far
abbrev hooked : List (List Point)
hooked = two_lines (at 0 4 ∷ (at 0 3 ∷ (at 4 0 ∷ (at 0 1 ∷ [])))) (at 2 3 ∷ (at 2 2 ∷ []))

hooked_is : (interior_weights (guarded_by true []) hooked ≡ Some 8 ∷ (Some 8 ∷ [])) × (chosen 1 2 (guarded_by true []) hooked ≡ 8) × (chosen 1 1 (guarded_by true []) hooked ≡ 8)
    × (reduction true [] 8 hooked ≡ hooked)
hooked_is = unfold reduced_arcs share keeps_rings goes_before twice_area is_free in_triangle same_ends is_on same cross in (refl, refl, refl, refl)

-- without a guard (0,3) goes first, with 4, and then (4,0), with 12
hooked_alone : (interior_weights (guarded_by false []) hooked ≡ Some 4 ∷ (Some 12 ∷ [])) × (chosen 1 2 (guarded_by false []) hooked ≡ 12)
    × (reduction false [] 12 hooked ≡ two_lines (at 0 4 ∷ (at 4 0 ∷ (at 0 1 ∷ []))) (at 2 3 ∷ (at 2 2 ∷ [])))
hooked_alone = unfold reduced_arcs share keeps_rings goes_before twice_area cross in (refl, refl, refl)

-- The roof goes after the tower, so it has the tower's weight. What is held for good has no weight, and stays at any threshold: of no share the
-- greatest weight is chosen, or zero.
weights_chosen : (chosen 1 1 (guarded_by true []) (two_lines roof tower) ≡ 20) × (interior_weights (guarded_by true []) (two_lines roof under_roof) ≡ None ∷ [])
    × (chosen 0 1 (guarded_by true []) (two_lines roof under_roof) ≡ 0) × (chosen 0 1 (guarded_by false []) hooked ≡ 12)
weights_chosen = unfold share keeps_rings goes_before twice_area is_free in_triangle same_ends is_on same cross in (refl, refl, refl, refl)

-- ---- counts

-- two that cross, and one with an end on another; equal neighbours make no segment
counted : (crossings ((at 0 0 ∷ (at 4 4 ∷ [])) ∷ ((at 0 4 ∷ (at 4 0 ∷ [])) ∷ ((at 1 0 ∷ (at 3 0 ∷ [])) ∷ ((below 2 1 ∷ (at 2 0 ∷ [])) ∷ [])))) ≡ 2)
    × (crossings ((at 0 0 ∷ (at 0 0 ∷ (at 4 0 ∷ (at 4 0 ∷ [])))) ∷ ((at 2 0 ∷ (at 2 0 ∷ [])) ∷ [])) ≡ 0)
counted = unfold meets_badly same_ends crosses separates touches is_on same cross in (refl, refl)
