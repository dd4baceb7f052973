-- Numbers of a transform that are whole numbers of units: nothing is rounded.
use Rattle.std.proofs.Common.{◌≡◌, ℕ, zero, suc, ◌*◌, ℤ, pos, negsuc, ◌+ℤ◌, ◌*ℤ◌, List, Some, refl, ap, sym, ◌∙◌, arith}
use Rattle.std.proofs.lemmas.Int.{ints}
use Rattle.std.proofs.Math.IntN.{neg_ℤ}
use Rattle.std.proofs.Math.Nat.{mul_assoc}
use Rattle.geometry.specs.Units.{fine_units}
use Rattle.topojson_types.specs.TransformNumbers.{transform_value, to_units, stands_for}
use Rattle.topojson_types.proofs.ExactTexts.{units_again}

-- ---- products of numbers below zero

times_below : (m n : ℕ) → pos m *ℤ neg_ℤ (pos n) ≡ neg_ℤ (pos (m * n))
times_below m zero = grind arith
times_below m (suc n) = refl

below_times : (m n : ℕ) → neg_ℤ (pos m) *ℤ pos n ≡ neg_ℤ (pos (m * n))
below_times zero n = grind arith
below_times (suc m) n = refl

below_below : (m n : ℕ) → neg_ℤ (pos m) *ℤ neg_ℤ (pos n) ≡ pos (m * n)
below_below zero n = grind arith
below_below (suc m) zero = grind arith
below_below (suc m) (suc n) = refl

-- ---- numbers in fine units

times_fine : (k s : ℤ) → k *ℤ (s *ℤ pos fine_units) ≡ (k *ℤ s) *ℤ pos fine_units
times_fine (pos k) (pos s) = grind (arith, mul_assoc)
times_fine (pos k) (negsuc s) = times_below k (suc s * fine_units) ∙ ap (λ n. neg_ℤ (pos n)) (sym (mul_assoc k (suc s) fine_units)) ∙ sym (below_times (k * suc s) fine_units)
times_fine (negsuc k) (pos s) = below_times (suc k) (s * fine_units) ∙ ap (λ n. neg_ℤ (pos n)) (sym (mul_assoc (suc k) s fine_units)) ∙ sym (below_times (suc k * s) fine_units)
times_fine (negsuc k) (negsuc s) = below_below (suc k) (suc s * fine_units) ∙ ap pos (sym (mul_assoc (suc k) (suc s) fine_units))

sum_fine : (p t : ℤ) → (p *ℤ pos fine_units) +ℤ (t *ℤ pos fine_units) ≡ (p +ℤ t) *ℤ pos fine_units
sum_fine p t = omega (arith, ints)

pub stands_whole : (scale translate : List ℕ) (k s t : ℤ) → transform_value scale ≡ Some (s *ℤ pos fine_units) → transform_value translate ≡ Some (t *ℤ pos fine_units)
    → stands_for scale translate k ≡ (k *ℤ s) +ℤ t
unfolding stands_for
stands_whole scale translate k s t e f =
    rw (e, f) (ap (λ p. to_units (p +ℤ (t *ℤ pos fine_units))) (times_fine k s) ∙ ap to_units (sum_fine (k *ℤ s) t) ∙ units_again ((k *ℤ s) +ℤ t))
