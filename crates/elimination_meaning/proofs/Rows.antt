-- Worked rows of reduction, in whole units.
use Rattle.std.proofs.Common.{◌≡◌, ℕ, pos, List, [], ◌∷◌, Some, refl}
use Rattle.geometry.specs.Areas.{cross, twice_area}
use Rattle.geometry.specs.Points.{Point}
use Rattle.elimination_meaning.specs.Elimination.{Vertex, is_before, next, numbered, reduce, reduced}

abbrev at : ℕ → ℕ → Point
at x y = record { x = pos x; y = pos y }

-- doubled areas 1 and 5: without (1, 1) the area at (2, 3) is 9
abbrev line : List Point
line = at 0 0 ∷ (at 1 1 ∷ (at 2 3 ∷ (at 3 0 ∷ [])))

small_area : twice_area (at 0 0) (at 1 1) (at 2 3) ≡ 1
unfolding twice_area cross
small_area = refl

large_area : twice_area (at 1 1) (at 2 3) (at 3 0) ≡ 5
unfolding twice_area cross
large_area = refl

area_without : twice_area (at 0 0) (at 2 3) (at 3 0) ≡ 9
unfolding twice_area cross
area_without = refl

under_the_new_area : reduce 7 line ≡ 0 ∷ (2 ∷ (3 ∷ []))
unfolding reduce is_before twice_area cross
under_the_new_area = refl

at_the_new_area : reduce 9 line ≡ 0 ∷ (2 ∷ (3 ∷ []))
unfolding reduce is_before twice_area cross
at_the_new_area = refl

over_the_new_area : reduce 10 line ≡ 0 ∷ (3 ∷ [])
unfolding reduce is_before twice_area cross
over_the_new_area = refl

-- doubled areas 2 and 2: the lesser position (1, 1) goes first from either end, and then the area at (2, 0) is 0
abbrev tied : List Point
tied = at 4 0 ∷ (at 2 0 ∷ (at 1 1 ∷ (at 0 0 ∷ [])))

abbrev vertex : ℕ → Point → Vertex
vertex i p = record { index = i; point = p }

tied_first : next 3 (numbered 0 tied) ≡ Some (vertex 0 (at 4 0) ∷ (vertex 1 (at 2 0) ∷ (vertex 3 (at 0 0) ∷ [])))
unfolding is_before twice_area cross
tied_first = refl

tied_whole : reduce 3 tied ≡ 0 ∷ (3 ∷ [])
unfolding reduce is_before twice_area cross
tied_whole = refl

tied_turned : reduce 3 (at 0 0 ∷ (at 1 1 ∷ (at 2 0 ∷ (at 4 0 ∷ [])))) ≡ 0 ∷ (3 ∷ [])
unfolding reduce is_before twice_area cross
tied_turned = refl

-- doubled areas 4 and 4, and 8 for the one that is left: the lesser position (1, 2) goes in either direction
roof : reduced 5 (at 0 0 ∷ (at 1 2 ∷ (at 3 2 ∷ (at 4 0 ∷ [])))) ≡ at 0 0 ∷ (at 3 2 ∷ (at 4 0 ∷ []))
unfolding reduced is_before twice_area cross
roof = refl

roof_turned : reduced 5 (at 4 0 ∷ (at 3 2 ∷ (at 1 2 ∷ (at 0 0 ∷ [])))) ≡ at 4 0 ∷ (at 3 2 ∷ (at 0 0 ∷ []))
unfolding reduced is_before twice_area cross
roof_turned = refl
