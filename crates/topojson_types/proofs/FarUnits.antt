-- Sums that are too large for 128 bits stand for nothing that is a coordinate.
use Rattle.std.proofs.Common.{◌+◌, ◌*◌, ◌^◌, ◌<◌, ◌≤◌, ℤ, ◌+ℤ◌, unsigned_abs, FitsSigned, arith}
use Rattle.std.proofs.lemmas.Bool.{cases_lt}
use Rattle.std.proofs.lemmas.Int.{ints, fits_signed_from_abs}
use Rattle.std.proofs.Common.{⊎_elim}
use mir.Syntax.{w128}
use Rattle.decimal_text.proofs.RoundedFractions.{IsRounded-some, IsRounded-above}
use Rattle.decimal_text.proofs.ScaledNumber.{unsigned_abs-signed}
use Rattle.geometry.specs.Units.{position_limit, transform_limit}
use Rattle.topojson_types.specs.TransformNumbers.{to_units}

pub far_units : (z : ℤ) → 4 * 10 ^ 28 ≤ unsigned_abs z → position_limit < unsigned_abs (to_units z)
unfolding to_units
far_units z h = grind (arith, unsigned_abs-signed, IsRounded-above, IsRounded-some)

pub large : (z : ℤ) → (FitsSigned w128 z → ⊥) → 2 ^ 127 ≤ unsigned_abs z
large z h = ⊎_elim (λ l. absurd (h (fits_signed_from_abs w128 z l))) (λ l. l) (cases_lt (unsigned_abs z) (2 ^ 127))

less_by : (a b : ℤ) → unsigned_abs a ≤ unsigned_abs (a +ℤ b) + unsigned_abs b
less_by a b = omega (arith, ints)

pub product_far : (product t : ℤ) → 2 ^ 127 ≤ unsigned_abs product → unsigned_abs t ≤ transform_limit → position_limit < unsigned_abs (to_units (product +ℤ t))
product_far product t h small = grind (arith, less_by, far_units)

pub sum_far : (z : ℤ) → (FitsSigned w128 z → ⊥) → position_limit < unsigned_abs (to_units z)
sum_far z h = grind (arith, large, far_units)
