use Rattle.std.proofs.Common.{◌++◌, length}
use Rattle.json_cursor.specs.Arrays.{prefix_elements, prefix_value}
use Rattle.json_cursor.specs.Folds.{fold}
use Rattle.json_cursor.proofs.ArrayParts as part
use Rattle.json_cursor.proofs.FoldedSoFar.{nothing_in}
use Rattle.json_cursor.proofs.Steps.{made_found}
use Rattle.json_cursor.proofs.held.held_array_at.Goals as goal

pub returns-in_ok-rest-in-NoArray : goal.returns-in_ok-rest-in-NoArray
returns-in_ok-rest-in-NoArray g c =
    let found = c.in_ok-rest-in-NoArray.ensures in
    (found.0, found.1, part.not_an_array c.args.wrong (fold (g.T.Elements.takes c.args.with) c.args.start) c.args.counts.now (prefix_value c.args.depth_left c.args.bytes.now) (rw c.in-NoArray.is at c.opening_at-opening.ensures) found.0 _ found.1)

pub returns-in-Empty : goal.returns-in-Empty
returns-in-Empty g c =
    let r = part.empty_array c.args.wrong (fold (g.T.Elements.takes c.args.with) c.args.start) c.args.counts.now (prefix_value c.args.depth_left c.args.bytes.now) _ _ _ (rw c.in-Empty.is at c.opening_at-opening.ensures) (nothing_in (g.T.Elements.takes c.args.with) c.args.start c.args.counts.now) in
    (r.value, r.prefix_is, r.means)

pub returns-in-Ok : goal.returns-in-Ok
returns-in-Ok g c =
    let r = part.array_reads c.args.wrong (fold (g.T.Elements.takes c.args.with) c.args.start) c.args.counts.now (prefix_value c.args.depth_left c.args.bytes.now) _ (rw c.in-Filled.is at c.opening_at-opening.ensures) _ _ _ c.in-Ok.ensures.answers in
    (r.value, r.prefix_is, r.means)

pub returns-in_ok-rest-in-Fault : goal.returns-in_ok-rest-in-Fault
returns-in_ok-rest-in-Fault g c =
    let below = c.in-Filled.below in
    let inside = c.opening_at-opening.result.1.now in
    let left = c.in-Err.stopped in
    let last = c.in-Err.ensures.last in
    let found = c.in_ok-rest-in-Fault.ensures in
    let rest = c.in_ok-rest-in-Fault.rest.now in
    let all = made_found (λ xs. last.0 ++ xs) (prefix_elements below (length inside) inside) (prefix_elements below left.turns left.left.now) last.1 found.0 rest found.1 in
    part.array_fault c.args.wrong (fold (g.T.Elements.takes c.args.with) c.args.start) c.args.counts.now (prefix_value c.args.depth_left c.args.bytes.now) (prefix_elements below (length inside) inside)
    (rw c.in-Filled.is at c.opening_at-opening.ensures) (last.0 ++ found.0) rest c.in-Fault.fault all (rw c.in-Fault.is at c.in-Err.ensures.answers)
