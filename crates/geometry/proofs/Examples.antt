-- The values of the numbers of the unit, the farthest positions, and areas of rings.
use Rattle.std.proofs.Common.{◌≡◌, ◌*◌, ◌^◌, ℤ, pos, negsuc, neg_ℤ, List, [], ◌∷◌, ◌++◌, refl, arith}
use Rattle.geometry.specs.Areas.{shoelace, twice_ring_area}
use Rattle.geometry.specs.Points.{Point, IsInput, IsPosition}
use Rattle.geometry.specs.Units.{input_limit, position_limit, cell_limit, area_places, area_limit, threshold_limit, fine_units, transform_limit}

input_is : input_limit ≡ 10 ^ 17
input_is = refl

position_is : position_limit ≡ 3 * 10 ^ 17
position_is = refl

cell_is : cell_limit ≡ 10 ^ 18
cell_is = refl

places_are : area_places ≡ 18
places_are = refl

area_is : area_limit ≡ 10 ^ 36
area_is = refl

threshold_is : threshold_limit ≡ 2 * 10 ^ 36
threshold_is = refl

fine_are : fine_units ≡ 10 ^ 11
fine_are = refl

transform_is : transform_limit ≡ 3 * 10 ^ 28
transform_is = refl

abbrev at : ℤ → ℤ → Point
at x y = record { x = x; y = y }

far : IsPosition (at (pos 3000000000000001) (negsuc 299999999999999999))
far = omega arith

too_far : IsPosition (at (pos 300000000000000001) (pos 0)) → ⊥
too_far h = omega (arith, h.0)

of_a_layer : IsInput (at (negsuc 99999999999999999) (pos 100000000000000000))
of_a_layer = omega arith

of_no_layer : IsInput (at (pos 0) (pos 100000000000000001)) → ⊥
of_no_layer h = omega (arith, h.1)

-- ---- areas of rings

unit_square : twice_ring_area (at (pos 0) (pos 0) ∷ (at (pos 1) (pos 0) ∷ (at (pos 1) (pos 1) ∷ (at (pos 0) (pos 1) ∷ (at (pos 0) (pos 0) ∷ []))))) ≡ 2
unit_square = unfold shoelace in refl

clockwise : twice_ring_area (at (pos 0) (pos 0) ∷ (at (pos 0) (pos 1) ∷ (at (pos 1) (pos 0) ∷ (at (pos 0) (pos 0) ∷ [])))) ≡ 1
clockwise = unfold shoelace in refl

-- it goes out and comes back
flat : twice_ring_area (at (pos 2) (pos 3) ∷ (at (pos 5) (pos 9) ∷ (at (pos 7) (pos 13) ∷ (at (pos 2) (pos 3) ∷ [])))) ≡ 0
flat = unfold shoelace in refl

-- around all that a layer may hold, three times
abbrev square : List Point
square = at (pos (10 ^ 17)) (pos (10 ^ 17)) ∷ (at (neg_ℤ (pos (10 ^ 17))) (pos (10 ^ 17)) ∷ (at (neg_ℤ (pos (10 ^ 17))) (neg_ℤ (pos (10 ^ 17))) ∷ (at (pos (10 ^ 17)) (neg_ℤ (pos (10 ^ 17))) ∷ [])))

around_all : twice_ring_area (square ++ (square ++ (square ++ (at (pos (10 ^ 17)) (pos (10 ^ 17)) ∷ [])))) ≡ 24 * 10 ^ 34
around_all = unfold shoelace in refl
