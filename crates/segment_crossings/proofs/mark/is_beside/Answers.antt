use Rattle.std.proofs.Common.{arith}
use Rattle.std.proofs.lemmas.Bool.{false_from_ne_true}
use Rattle.std.proofs.lemmas.Int.{ints}
use Rattle.guarded_meaning.proofs.Step.{bad_back}
use Rattle.segment_crossings.specs.Lines.{as_segment}
use Rattle.segment_crossings.proofs.Beside.{beside_never}
use Rattle.segment_crossings.proofs.mark.is_beside.Goals as goal

pub returns-then-max-mark : goal.returns-then-max-mark
returns-then-max-mark c = λ e t b. false_from_ne_true _ (beside_never c.args.mark.now.along.from c.args.mark.now.along.to c.args.mark.now.low (as_segment c.args.line.now) t
    (omega (arith, ints, c.if-max-mark.true, c.max.ensures.self_bound, c.cross-from.ensures.value)) (omega (arith, ints, c.if-max-mark.true, c.max.ensures.other_bound, c.cross-to.ensures.value)) b.from_low b.to_low)

pub returns-else-max-mark : goal.returns-else-max-mark
returns-else-max-mark c = λ e t b. false_from_ne_true _ (λ bad. beside_never c.args.mark.now.along.from c.args.mark.now.along.to c.min.result t (as_segment c.args.line.now)
    (omega (arith, ints, e, b.from_high)) (omega (arith, ints, e, b.to_high)) (omega (arith, ints, c.min.ensures.self_bound, c.cross-from.ensures.value)) (omega (arith, ints, c.min.ensures.other_bound, c.cross-to.ensures.value)) (bad_back _ _ bad))
