-- Worked rows: grids over positions, in units, and where they snap them.
use Rattle.std.proofs.Common.{◌≡◌, ℕ, ◌^◌, ◌-◌, ℤ, pos, negsuc, neg_ℤ, true, false, [], ◌∷◌, None, Some, refl}
use Rattle.geometry.specs.Points.{Point}
use Rattle.grid_snap.specs.declared.axis.Axis.{Axis}
use Rattle.grid_snap.specs.Axes.{number, is_on, Axes, covers, cell, back, snapped, grid_over}

abbrev at : ℤ → ℤ → Point
at x y = record { x = x; y = y }

abbrev axis : ℤ → ℕ → ℕ → Axis
axis first step last = record { first = first; step = step; last = last }

abbrev square : Axis → Axes
square a = record { x = a; y = a }

-- a line and a point, by four coordinates in each direction: steps of a third of 10^9 units, rounded up
abbrev four : Axes
four = square (axis (pos 0) 333333334 3)

four_over : grid_over 4 (at (pos 0) (pos 0) ∷ (at (pos 500000000) (pos 1000000000) ∷ (at (pos 1000000000) (pos 0) ∷ (at (pos 1000000000) (pos 1000000000) ∷ [])))) ≡ Some four
four_over = refl

four_cell : cell four (at (pos 500000000) (pos 1000000000)) ≡ at (pos 1) (pos 3)
four_cell = unfold number in refl

four_snapped : snapped four (at (pos 500000000) (pos 1000000000)) ≡ at (pos 333333334) (pos 1000000002)
four_snapped = unfold number in refl

four_back : back four (at (pos 1) (pos 3)) ≡ at (pos 333333334) (pos 1000000002)
four_back = refl

four_covers : covers four (at (pos 1000000002) (pos 0)) ≡ true
four_covers = unfold is_on in refl

four_ends : covers four (at (pos 1000000003) (pos 0)) ≡ false
four_ends = unfold is_on in refl

-- lines along one height: a step of one unit there, and a short line falls together
abbrev two : Axes
two = record { x = axis (pos 0) 10000000000 1; y = axis (pos 5000000000) 1 1 }

two_over : grid_over 2 (at (pos 0) (pos 5000000000) ∷ (at (pos 10000000000) (pos 5000000000) ∷ (at (pos 1000000000) (pos 5000000000) ∷ (at (pos 2000000000) (pos 5000000000) ∷ [])))) ≡ Some two
two_over = refl

two_one : snapped two (at (pos 1000000000) (pos 5000000000)) ≡ at (pos 0) (pos 5000000000)
two_one = unfold number in refl

two_other : snapped two (at (pos 2000000000) (pos 5000000000)) ≡ at (pos 0) (pos 5000000000)
two_other = unfold number in refl

-- halves of a step go up
halves : cell (square (axis (negsuc 2) 2 3)) (at (negsuc 1) (pos 0)) ≡ at (pos 1) (pos 2)
halves = unfold number in refl

-- no position, no grid; one alone is the first cell of a grid of single units
none_over : grid_over 10 [] ≡ None
none_over = refl

one_over : grid_over 10 (at (pos 7) (negsuc 6) ∷ []) ≡ Some (record { x = axis (pos 7) 1 9; y = axis (negsuc 6) 1 9 })
one_over = refl

-- both ends of what a layer holds, and as many coordinates as there may be
abbrev widest : Axes
widest = square (axis (neg_ℤ (pos (10 ^ 17))) 200000001 (10 ^ 9 - 1))

widest_over : grid_over (10 ^ 9) (at (neg_ℤ (pos (10 ^ 17))) (pos (10 ^ 17)) ∷ (at (pos (10 ^ 17)) (neg_ℤ (pos (10 ^ 17))) ∷ [])) ≡ Some widest
widest_over = refl

widest_covers : covers widest (at (pos (10 ^ 17)) (neg_ℤ (pos (10 ^ 17)))) ≡ true
widest_covers = unfold is_on in refl
