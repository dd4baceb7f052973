use Rattle.std.proofs.Common.{◌≡◌, ◌+◌, ◌<◌, ◌≤◌, ℤ, ◌+ℤ◌, FitsSigned, to_z, of_z, unsigned_abs, ap, ◌∙◌, arith}
use Rattle.std.proofs.lemmas.Int.{ints, to_z-of_z, fits_signed_from_abs}
use Rattle.geometry.specs.Areas.{sum_limit}
use Rattle.geometry.specs.Units.{area_limit}
use Rattle.geometry.proofs.RingAreas.{sum_of}
use Rattle.geometry.proofs.ring_area.with_sum.Goals as goal
use mir.Syntax.{w128}

-- two numbers are added through their bits
both_read : (a b : ℤ) → FitsSigned w128 a → FitsSigned w128 b → FitsSigned w128 (a +ℤ b) → to_z w128 (of_z w128 (to_z w128 (of_z w128 a) +ℤ to_z w128 (of_z w128 b))) ≡ a +ℤ b
both_read a b f g h =
    ap (λ x. to_z w128 (of_z w128 (x +ℤ to_z w128 (of_z w128 b)))) (to_z-of_z w128 a f)
    ∙ ap (λ x. to_z w128 (of_z w128 (a +ℤ x))) (to_z-of_z w128 b g)
    ∙ to_z-of_z w128 (a +ℤ b) h

value_of : (whole rest more kept w r : ℤ) → FitsSigned w128 whole → FitsSigned w128 rest → FitsSigned w128 w → FitsSigned w128 r →
    unsigned_abs (sum_of whole rest) + unsigned_abs (sum_of w r) ≤ sum_limit → unsigned_abs rest < area_limit → unsigned_abs r < area_limit →
    sum_of more kept ≡ sum_of (to_z w128 (of_z w128 (to_z w128 (of_z w128 whole) +ℤ to_z w128 (of_z w128 w)))) (to_z w128 (of_z w128 (to_z w128 (of_z w128 rest) +ℤ to_z w128 (of_z w128 r)))) →
    sum_of more kept ≡ sum_of whole rest +ℤ sum_of w r
value_of whole rest more kept w r f g h k bound p q e =
    let a = both_read whole w f h (fits_signed_from_abs w128 (whole +ℤ w) (omega (arith, ints, bound, p, q))) in
    let b = both_read rest r g k (fits_signed_from_abs w128 (rest +ℤ r) (omega (arith, ints, p, q))) in
    omega (arith, ints, e, a, b)

pub returns-clause-value : goal.returns-clause-value
returns-clause-value c =
    value_of c.args.whole c.args.rest c.carried.result.0 c.carried.result.1 c.args.more_whole c.args.more_rest c.ranges.whole c.ranges.rest c.ranges.more_whole c.ranges.more_rest
    c.requires.sums c.requires.rest c.requires.more_rest c.carried.ensures.value
