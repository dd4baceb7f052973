use Rattle.std.proofs.Common.{◌≡◌, ℤ, FitsSigned, to_z, of_z, unsigned_abs, Bool, true, false, ap, refl, ◌∙◌, arith, rules}
use Rattle.std.proofs.lemmas.Int.{ints, to_z-of_z}
use Rattle.geometry.specs.Areas.{Passed, sum_along}
use Rattle.geometry.proofs.RingAreas.{sum_of}
use Rattle.geometry.proofs.ring_area.RingSum.pass_line.Goals as goal
use mir.Syntax.{w128}

read : (whole rest : ℤ) → FitsSigned w128 whole → FitsSigned w128 rest → sum_of (to_z w128 (of_z w128 whole)) (to_z w128 (of_z w128 rest)) ≡ sum_of whole rest
read whole rest f g = let a = to_z-of_z w128 whole f in let b = to_z-of_z w128 rest g in omega (arith, ints, a, b)

same_size : (reversed : Bool) (n : ℤ) → unsigned_abs (sum_along reversed n) ≡ unsigned_abs n
same_size true n = omega (arith, ints)
same_size false n = refl

pub with_sum-whole-requires-clause-sums : goal.with_sum-whole-requires-clause-sums
with_sum-whole-requires-clause-sums c =
    let own : FitsSigned w128 c.self.inside.whole = search rules in
    let own_rest : FitsSigned w128 c.self.inside.rest = search rules in
    let other : FitsSigned w128 c.line.inside.whole = search rules in
    let other_rest : FitsSigned w128 c.line.inside.rest = search rules in
    let more : FitsSigned w128 c.along-more_whole.result.0 = search rules in
    let more_rest : FitsSigned w128 c.along-more_whole.result.1 = search rules in
    let a = ap unsigned_abs (read c.self.inside.whole c.self.inside.rest own own_rest ∙ ap (λ (v : Passed). v.sum) c.self.view_is) in
    let b =
    ap unsigned_abs (read c.along-more_whole.result.0 c.along-more_whole.result.1 more more_rest ∙ c.along-more_whole.ensures.value
    ∙ ap (sum_along c.args.reversed) (read c.line.inside.whole c.line.inside.rest other other_rest ∙ ap (λ (v : Passed). v.sum) c.line.view_is))
    ∙ same_size c.args.reversed c.args.line.now.sum in
    omega (arith, a, b, c.requires)
