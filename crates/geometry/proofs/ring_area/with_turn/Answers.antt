use Rattle.std.proofs.Common.{◌≡◌, ◌<◌, ◌≤◌, ℤ, ◌+ℤ◌, FitsSigned, to_z, of_z, unsigned_abs, ap, sym, ◌∙◌}
use Rattle.std.proofs.lemmas.Int.{to_z-of_z}
use Rattle.geometry.specs.Areas.{turn_after, most_turned}
use Rattle.geometry.specs.Units.{area_limit}
use Rattle.geometry.proofs.RingAreas.{added, sum_of, sum_more}
use Rattle.geometry.proofs.ring_area.with_turn.Goals as goal
use mir.Syntax.{w128}

-- ---- what a position adds to the rest

-- it is read through its bits
sum_read : (rest t : ℤ) → FitsSigned w128 rest → unsigned_abs rest < area_limit → unsigned_abs t ≤ most_turned →
    to_z w128 (of_z w128 (to_z w128 (of_z w128 rest) +ℤ to_z w128 (of_z w128 t))) ≡ rest +ℤ t
sum_read rest t f h k = ap (λ r. to_z w128 (of_z w128 (r +ℤ to_z w128 (of_z w128 t)))) (to_z-of_z w128 rest f) ∙ added rest t h k

value_of : (whole rest t more kept : ℤ) → FitsSigned w128 whole → FitsSigned w128 rest → unsigned_abs rest < area_limit → unsigned_abs t ≤ most_turned →
    sum_of more kept ≡ sum_of (to_z w128 (of_z w128 whole)) (to_z w128 (of_z w128 (to_z w128 (of_z w128 rest) +ℤ to_z w128 (of_z w128 t)))) →
    sum_of more kept ≡ sum_of whole rest +ℤ t
value_of whole rest t more kept f g h k e =
    sum_more whole rest more kept t
    (e ∙ ap (λ w. sum_of w (to_z w128 (of_z w128 (to_z w128 (of_z w128 rest) +ℤ to_z w128 (of_z w128 t))))) (to_z-of_z w128 whole f) ∙ ap (sum_of whole) (sum_read rest t g h k))

-- ---- the goals

pub returns-in-Some-clause-value : goal.returns-in-Some-clause-value
returns-in-Some-clause-value c =
    value_of c.args.whole c.args.rest c.turn.result c.carried.result.0 c.carried.result.1 c.ranges.whole c.ranges.rest c.requires.rest c.turn.ensures.bound c.carried.ensures.value
    ∙ ap (λ t. sum_of c.args.whole c.args.rest +ℤ t) (c.turn.ensures.value ∙ ap (λ l. turn_after l c.args.position) (sym c.in-Some.is))
