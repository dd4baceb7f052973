use Rattle.std.proofs.Common.{sym, ◌∙◌}
use Rattle.std.proofs.lemmas.Result.{err_from_is_err_and}
use Rattle.json_reading.proofs.Steps.{none_fails}
use Rattle.json_reading.proofs.StringLoop as loop
use Rattle.json_reading.proofs.strings.chars_at.Goals as goal

pub returns-in_default : goal.returns-in_default
returns-in_default c = none_fails _ _ (loop.at_nothing _ _ _ _ _ c.loop.invariant c.loop-test.true (sym c.plain_run.ensures.rest ∙ c.in_default.ensures))

pub returns-then-first-eq34 : goal.returns-then-first-eq34
returns-then-first-eq34 c = rw (c.in_ok-extend_from_slice.ensures.items, c.plain_run.ensures.prefix)
    (loop.at_quote _ _ _ _ _ c.loop.invariant c.loop-test.true _ _ (sym c.plain_run.ensures.rest ∙ c.in-Some.ensures) c.if-first-eq34.true)

pub returns-then-first-ne92 : goal.returns-then-first-ne92
returns-then-first-ne92 c = none_fails _ _
    (loop.at_other _ _ _ _ _ c.loop.invariant c.loop-test.true _ _ (sym c.plain_run.ensures.rest ∙ c.in-Some.ensures) c.if-first-eq34.false c.if-first-ne92.true)

pub returns-in_err-rest : goal.returns-in_err-rest
returns-in_err-rest c =
    let p = err_from_is_err_and c.from_residual-in_err-rest.result c.from_residual-in_err-rest.ensures.1 in
    rw (p.1, p.2) (loop.escape_fails _ _ _ _ _ c.loop.invariant c.loop-test.true _ _ (sym c.plain_run.ensures.rest ∙ c.in-Some.ensures) c.if-first-ne92.false _ c.in_err-rest.ensures)

pub loop-preserved : goal.loop-preserved
loop-preserved c = rw (c.in_ok-rest.ensures.1.1, c.in_ok-extend_from_slice.ensures.items, c.plain_run.ensures.prefix)
    (loop.at_escape _ _ _ _ _ c.loop.invariant c.loop-test.true _ _ (sym c.plain_run.ensures.rest ∙ c.in-Some.ensures) c.if-first-ne92.false _ _ c.in_ok-rest.ensures.1.0)

pub returns : goal.returns
returns c = none_fails _ _ (loop.turns_over _ _ _ _ _ c.loop.invariant c.loop-test.false)
