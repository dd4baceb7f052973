use Rattle.std.proofs.Common.{◌-◌}
use Rattle.std.specs.Str.{is_utf8}
use Rattle.json_value.specs.Reading.{value_at}
use Rattle.json_cursor.proofs.FoldedSoFar as so_far
use Rattle.json_cursor.proofs.folds.folded_at.Goals as goal

pub returns-in-Err-clause-answers : goal.returns-in-Err-clause-answers
returns-in-Err-clause-answers g c = so_far.stops (g.T.Elements.takes c.args.with) (value_at is_utf8 c.args.depth_left) _ _ _ _ _ _ _ _ c.elements.invariant c.elements-test.true c.in-Err.stop (rw c.skip.ensures at c.in-Err.ensures)

pub returns-in-Neither-clause-answers : goal.returns-in-Neither-clause-answers
returns-in-Neither-clause-answers g c = so_far.breaks (g.T.Elements.takes c.args.with) (value_at is_utf8 c.args.depth_left) _ _ _ _ _ _ _ _ c.elements.invariant c.elements-test.true _ _ _ (rw c.skip.ensures at c.in-Ok.ensures) (rw c.in-Neither.is at c.mark_at-mark.ensures)

pub returns-in-Close-clause-answers : goal.returns-in-Close-clause-answers
returns-in-Close-clause-answers g c = so_far.ends (g.T.Elements.takes c.args.with) (value_at is_utf8 c.args.depth_left) _ _ _ _ _ _ _ _ c.elements.invariant c.elements-test.true _ _ _ (rw c.skip.ensures at c.in-Ok.ensures) _ (rw c.in-Close.is at c.mark_at-mark.ensures)

pub elements-preserved : goal.elements-preserved
elements-preserved g c = so_far.goes_on (g.T.Elements.takes c.args.with) (value_at is_utf8 c.args.depth_left) _ _ _ _ _ _ _ _ c.elements.invariant c.elements-test.true _ _ _ (rw c.skip.ensures at c.in-Ok.ensures) _ (rw c.in-Comma.is at c.mark_at-mark.ensures)

pub returns-clause-answers : goal.returns-clause-answers
returns-clause-answers g c = so_far.turns_over (g.T.Elements.takes c.args.with) (value_at is_utf8 c.args.depth_left) _ _ _ _ _ _ _ _ c.elements.invariant c.elements-test.false
