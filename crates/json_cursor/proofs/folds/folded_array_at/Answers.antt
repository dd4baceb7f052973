use Rattle.json_cursor.specs.Arrays.{prefix_value}
use Rattle.json_cursor.specs.Folds.{fold}
use Rattle.json_cursor.proofs.ArrayParts as part
use Rattle.json_cursor.proofs.FoldedSoFar.{nothing_in}
use Rattle.json_cursor.proofs.folds.folded_array_at.Goals as goal

pub returns-in-NoArray : goal.returns-in-NoArray
returns-in-NoArray g c = part.not_an_array c.args.wrong (fold (g.T.Elements.takes c.args.with) c.args.start) c.args.counts.now (prefix_value c.args.depth_left c.args.bytes.now) (rw c.in-NoArray.is at c.opening_at-opening.ensures)

pub returns-in-Empty : goal.returns-in-Empty
returns-in-Empty g c = part.empty_array c.args.wrong (fold (g.T.Elements.takes c.args.with) c.args.start) c.args.counts.now (prefix_value c.args.depth_left c.args.bytes.now) _ _ _ (rw c.in-Empty.is at c.opening_at-opening.ensures) (nothing_in (g.T.Elements.takes c.args.with) c.args.start c.args.counts.now)

pub returns-in-Err : goal.returns-in-Err
returns-in-Err g c = part.array_stops c.args.wrong (fold (g.T.Elements.takes c.args.with) c.args.start) c.args.counts.now (prefix_value c.args.depth_left c.args.bytes.now) _ (rw c.in-Filled.is at c.opening_at-opening.ensures) c.in-Err.stopped.stop c.in-Err.ensures.answers

pub returns-in-Ok : goal.returns-in-Ok
returns-in-Ok g c = part.array_reads c.args.wrong (fold (g.T.Elements.takes c.args.with) c.args.start) c.args.counts.now (prefix_value c.args.depth_left c.args.bytes.now) _ (rw c.in-Filled.is at c.opening_at-opening.ensures) _ _ _ c.in-Ok.ensures.answers
