use Rattle.std.proofs.Common.{Some, length}
use Rattle.std.specs.Str.{is_utf8}
use Rattle.json_value.specs.Reading.{value_at}
use Rattle.json_cursor.specs.Arrays.{always, prefix_value, prefix_elements}
use Rattle.json_cursor.specs.Folds.{fold}
use Rattle.json_cursor.proofs.ArrayParts as part
use Rattle.json_cursor.proofs.folds.folded_some_at.Goals as goal

pub returns-in-NoArray : goal.returns-in-NoArray
returns-in-NoArray g c = part.no_array c.args.wrong (always (fold (g.T.Elements.takes c.args.with) c.args.start)) c.args.counts.now (prefix_value c.args.depth_left c.args.bytes.now) (rw c.in-NoArray.is at c.opening_at-opening.ensures)

pub returns-in-Empty : goal.returns-in-Empty
returns-in-Empty g c = rw c.count_empty.ensures
    (part.counted_array c.args.wrong (always (fold (g.T.Elements.takes c.args.with) c.args.start)) c.args.counts.now (prefix_value c.args.depth_left c.args.bytes.now) _ (rw c.in-Empty.is at c.opening_at-opening.ensures))

pub returns-in-Err : goal.returns-in-Err
returns-in-Err g c =
    let inside = c.opening_at-opening.result.1.now in
    let read = fold (g.T.Elements.takes c.args.with) c.args.start in
    part.filled_stops c.args.wrong (always read) c.args.counts.now (prefix_value c.args.depth_left c.args.bytes.now) (value_at is_utf8 c.in-Filled.below) (length inside) inside (rw c.in-Filled.is at c.opening_at-opening.ensures) c.in-Err.stopped.stop
    (part.always_stops read (prefix_elements c.in-Filled.below (length inside) inside) c.args.counts.now c.in-Err.stopped.stop c.in-Err.ensures.answers)

pub returns-in-Ok : goal.returns-in-Ok
returns-in-Ok g c =
    let inside = c.opening_at-opening.result.1.now in
    let read = fold (g.T.Elements.takes c.args.with) c.args.start in
    part.filled_reads c.args.wrong (always read) c.args.counts.now (prefix_value c.args.depth_left c.args.bytes.now) (value_at is_utf8 c.in-Filled.below) (length inside) inside (rw c.in-Filled.is at c.opening_at-opening.ensures) (Some c.in-Ok.made) c.in-Ok.rest.now c.folded_at.new.counts
    (part.always_reads read (prefix_elements c.in-Filled.below (length inside) inside) c.args.counts.now c.in-Ok.made c.in-Ok.rest.now c.folded_at.new.counts c.in-Ok.ensures.answers)
