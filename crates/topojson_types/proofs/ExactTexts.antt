-- The least decimals of coordinates as numbers of a transform: exact at its places.
use Rattle.std.proofs.Common.{◌≡◌, ◌++◌, ℕ, ◌+◌, ◌-◌, ◌*◌, ◌/◌, ◌%◌, ◌^◌, ◌<◌, ◌≤◌, Bool, true, false, Option, None, Some, Result, Ok, Err, sym, ap, ◌∙◌, arith, ℤ, pos, ◌+ℤ◌, ◌*ℤ◌, unsigned_abs, int_lt, ◌==◌}
use Rattle.std.proofs.Math.IntN.{neg_ℤ}
use Rattle.std.proofs.Math.Nat.{zero-mul, mul_assoc}
use Rattle.std.proofs.lemmas.Nat.{pow-add}
use Rattle.std.proofs.lemmas.Bool.Decides.{nat_tests}
use Rattle.std.specs.Prelude.{if◌then◌else◌, nat_le}
use Rattle.decimal_text.specs.declared.num_text.Scaled.{Scaled}
use Rattle.decimal_text.specs.declared.num_text.Range.{Range}
use Rattle.decimal_text.specs.Digits.{digits_value}
use Rattle.decimal_text.specs.Parts.{Parts, parts_of}
use Rattle.decimal_text.specs.Rounding.{nearest, signed, rounded_of}
use Rattle.decimal_text.specs.Scaling.{numerator, denominator, scaled_parts, scaled_of, units_text}
use Rattle.decimal_text.proofs.Nearest.{nearest-only, rounded_of-whole}
use Rattle.decimal_text.proofs.RoundedFractions.{IsRounded-whole}
use Rattle.decimal_text.proofs.ScaledNumber.{denominator-positive, unsigned_abs-signed}
use Rattle.decimal_text.proofs.UnitsText.{scaled_of-units}
use Rattle.geometry.specs.Units.{unit_places, position_limit, transform_places, transform_limit, fine_units}
use Rattle.topojson_types.specs.Differences.{UnitsAreNumbers, StandsExactly}
use Rattle.topojson_types.specs.TransformNumbers.{value_if, transform_value, to_units, stands_for}

-- ---- the same text at more places

-- a fraction that is a whole number, and so many times as much
pub record IsWhole (negative : Bool) (num den : ℕ) (u : ℤ) : Type 0 where
  pub size : ℕ
  pub is : num ≡ size * den
  pub value : signed negative size ≡ u

abbrev scaled : ℤ → Bool → Scaled
scaled value exact = record { value = value; exact = exact }

abbrev chosen : Bool → Scaled → Result Scaled Range
chosen b s = if b then Ok s else Err (record {})

whole_from : (negative : Bool) (num den : ℕ) (u : ℤ) (b : Bool) → 0 < den
    → chosen b (scaled (signed negative (nearest num den)) (num % den == 0)) ≡ Ok (scaled u true) → IsWhole negative num den u
whole_from negative num den u true h e =
    let s : scaled (signed negative (nearest num den)) (num % den == 0) ≡ scaled u true = cc in
    let q : num ≡ (num / den) * den = (let z : num % den ≡ 0 = grind (arith, nat_tests) in omega (arith, z)) in
    let n : nearest num den ≡ num / den = ap (λ m. nearest m den) q ∙ nearest-only ((num / den) * den) den (num / den) h (IsRounded-whole den (num / den) h) in
    record { size = num / den; is = q; value = ap (signed negative) (sym n) ∙ ap (λ z. z.value) s }
whole_from negative num den u false h e = absurd cc

times_signed : (negative : Bool) (size k : ℕ) → signed negative (size * k) ≡ signed negative size *ℤ pos k
times_signed negative size k = grind (arith, neg_ℤ, zero-mul)

finer : (n : Parts) → numerator n transform_places ≡ numerator n unit_places * fine_units
finer n = grind (arith, pow-add 10 (unit_places + (if n.exponent_negative then 0 else digits_value n.exponent)) (transform_places - unit_places), mul_assoc (digits_value (n.whole ++ n.fraction)) (10 ^ (unit_places + (if n.exponent_negative then 0 else digits_value n.exponent))) fine_units)

finer_parts : (o : Option Parts) (u : ℤ) (limit : ℕ) → scaled_parts unit_places limit o ≡ Ok (scaled u true) → unsigned_abs u * fine_units ≤ transform_limit
    → scaled_parts transform_places transform_limit o ≡ Ok (scaled (u *ℤ pos fine_units) true)
finer_parts None u limit e small = absurd cc
finer_parts (Some n) u limit e small =
    let w : IsWhole n.negative (numerator n unit_places) (denominator n) u = (whole_from n.negative (numerator n unit_places) (denominator n) u (nat_le (nearest (numerator n unit_places) (denominator n)) limit) (denominator-positive n) e) in
    let num : numerator n transform_places ≡ (w.size * fine_units) * denominator n = finer n ∙ ap (λ m. m * fine_units) w.is ∙ turned w.size (denominator n) fine_units in
    let size : w.size ≡ unsigned_abs u = sym (unsigned_abs-signed n.negative w.size) ∙ ap unsigned_abs w.value in
    let near : w.size * fine_units ≤ transform_limit = omega (arith, size, small) in
    ap (λ m. rounded_of n.negative m (denominator n) transform_limit) num
    ∙ rounded_of-whole n.negative (denominator n) (w.size * fine_units) transform_limit (denominator-positive n) near
    ∙ ap (λ z. Ok (scaled z true)) (times_signed n.negative w.size fine_units ∙ ap (λ z. z *ℤ pos fine_units) w.value)
  where
    turned : (a b c : ℕ) → (a * b) * c ≡ (a * c) * b
    turned a b c = omega arith

pub value_of_text : (u : ℤ) → unsigned_abs u ≤ position_limit → transform_value (units_text u unit_places) ≡ Some (u *ℤ pos fine_units)
unfolding transform_value scaled_of
value_of_text u h = ap value_if (finer_parts (parts_of (units_text u unit_places)) u position_limit (scaled_of-units u unit_places position_limit (omega arith) h) (omega arith))

pub units_are_numbers : UnitsAreNumbers
units_are_numbers u h = (u *ℤ pos fine_units, value_of_text u h)

-- ---- what stands for what

below_zero : (n : ℕ) → 0 < n → int_lt (neg_ℤ (pos n)) (pos 0) ≡ true
below_zero n h = grind arith

size_below : (n : ℕ) → unsigned_abs (neg_ℤ (pos n)) ≡ n
size_below n = grind arith

near_whole : (n : ℕ) → nearest (n * fine_units) fine_units ≡ n
near_whole n = nearest-only (n * fine_units) fine_units n (omega arith) (IsRounded-whole fine_units n (omega arith))

pub units_again : (z : ℤ) → to_units (z *ℤ pos fine_units) ≡ z
unfolding to_units
units_again z = grind (arith, near_whole, below_zero, size_below)

-- a step so many times and a first coordinate, all in fine units
both_fine : (k step a : ℕ) → k * (step * fine_units) + a * fine_units ≡ (a + k * step) * fine_units
both_fine k step a = omega arith

less_fine : (z : ℤ) (n m : ℕ) → z ≡ pos n +ℤ neg_ℤ (pos m) → pos (n * fine_units) +ℤ neg_ℤ (pos (m * fine_units)) ≡ z *ℤ pos fine_units
less_fine z n m e = grind arith

sum_fine : (k step : ℕ) (first : ℤ) → (pos k *ℤ (pos step *ℤ pos fine_units)) +ℤ (first *ℤ pos fine_units) ≡ (first +ℤ (pos k *ℤ pos step)) *ℤ pos fine_units
sum_fine k step first = grind (arith, both_fine, neg_ℤ, mul_assoc, less_fine)

pub stands_exactly : StandsExactly
unfolding stands_for
stands_exactly step k first h i = grind (arith, value_of_text, sum_fine, units_again)
