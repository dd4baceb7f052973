use Rattle.std.proofs.Common.{[]}
use Rattle.json_value.specs.Readers.{gather}
use Rattle.json_cursor.specs.Arrays.{array_by, prefix_value}
use Rattle.json_cursor.specs.Folds.{fold, with_read}
use Rattle.json_cursor.proofs.ArrayParts as part
use Rattle.json_cursor.proofs.elements.array_at.Goals as goal

pub returns-in-Err : goal.returns-in-Err
returns-in-Err g c =
    let read = g.E.Element.reads c.args.reader in
    part.same_stops (array_by c.args.wrong (fold (with_read read) [])) (array_by c.args.wrong (gather read)) (prefix_value c.args.depth_left c.args.bytes.now) c.args.counts.now (λ v. part.same_array c.args.wrong (fold (with_read read) []) (gather read) (part.as_list read) v c.args.counts.now) c.in-Err.stop (rw c.in_ok-list.ensures.items at c.in-Err.ensures)

pub returns-in-Ok : goal.returns-in-Ok
returns-in-Ok g c =
    let read = g.E.Element.reads c.args.reader in
    rw c.items_of.ensures
    (part.same_reads (array_by c.args.wrong (fold (with_read read) [])) (array_by c.args.wrong (gather read)) (prefix_value c.args.depth_left c.args.bytes.now) c.args.counts.now (λ v. part.same_array c.args.wrong (fold (with_read read) []) (gather read) (part.as_list read) v c.args.counts.now) _ _ _ (rw c.in_ok-list.ensures.items at c.in-Ok.ensures))
