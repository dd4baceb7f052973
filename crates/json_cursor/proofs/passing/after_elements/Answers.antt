use Rattle.std.specs.Str.{is_utf8}
use Rattle.std.proofs.lemmas.Result.{err_from_is_err_and}
use Rattle.json_value.specs.Reading.{value_at}
use Rattle.json_cursor.proofs.Lists as list
use Rattle.json_cursor.proofs.passing.after_elements.Goals as goal

pub returns-in_err-after : goal.returns-in_err-after
returns-in_err-after c =
    let p = err_from_is_err_and c.from_residual.result c.from_residual.ensures.1 in
    rw (p.1, p.2)
    (list.turn_fails (value_at is_utf8 c.args.depth_left) _ _ _ _ _ c.elements.invariant.1 c.elements-test.true _ (rw c.skip.ensures at c.in_err-after.ensures))

pub returns-in-Close : goal.returns-in-Close
returns-in-Close c =
    let mark = rw c.in-Close.is at c.mark_at-mark.ensures in
    (_, list.turn_ends (value_at is_utf8 c.args.depth_left) _ _ _ _ _ c.elements.invariant.1 c.elements-test.true _ _ (rw c.skip.ensures at c.in_ok-after.ensures).1 _ mark)

pub returns-in-Neither : goal.returns-in-Neither
returns-in-Neither c =
    let mark = rw c.in-Neither.is at c.mark_at-mark.ensures in
    list.turn_breaks (value_at is_utf8 c.args.depth_left) _ _ _ _ _ c.elements.invariant.1 c.elements-test.true _ _ (rw c.skip.ensures at c.in_ok-after.ensures).1 mark

pub elements-preserved : goal.elements-preserved
elements-preserved c =
    let mark = rw c.in-Comma.is at c.mark_at-mark.ensures in
    (_, list.turn_goes_on (value_at is_utf8 c.args.depth_left) _ _ _ _ _ c.elements.invariant.1 c.elements-test.true _ _ (rw c.skip.ensures at c.in_ok-after.ensures).1 _ mark)

pub returns : goal.returns
returns c = list.turns_over (value_at is_utf8 c.args.depth_left) _ _ _ _ _ c.elements.invariant.1 c.elements-test.false
