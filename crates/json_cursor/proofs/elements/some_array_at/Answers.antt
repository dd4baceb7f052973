use Rattle.std.proofs.Common.{[]}
use Rattle.json_value.specs.Readers.{gather}
use Rattle.json_cursor.specs.Arrays.{always, some_array_by, prefix_value}
use Rattle.json_cursor.specs.Folds.{fold, with_read}
use Rattle.json_cursor.proofs.ArrayParts as part
use Rattle.json_cursor.proofs.elements.some_array_at.Goals as goal

pub returns-in-Err : goal.returns-in-Err
returns-in-Err g c =
    let read = g.E.Element.reads c.args.reader in
    part.same_stops (some_array_by c.args.wrong (always (fold (with_read read) []))) (some_array_by c.args.wrong (always (gather read))) (prefix_value c.args.depth_left c.args.bytes.now) c.args.counts.now
    (λ v. part.same_some_array c.args.wrong (always (fold (with_read read) [])) (always (gather read)) (part.always_as_list read) v c.args.counts.now) c.in-Err.stop (rw c.in_ok-list.ensures.items at c.in-Err.ensures)

pub returns-in-Some : goal.returns-in-Some
returns-in-Some g c =
    let read = g.E.Element.reads c.args.reader in
    rw c.items_of.ensures
    (part.same_reads (some_array_by c.args.wrong (always (fold (with_read read) []))) (some_array_by c.args.wrong (always (gather read))) (prefix_value c.args.depth_left c.args.bytes.now) c.args.counts.now
    (λ v. part.same_some_array c.args.wrong (always (fold (with_read read) [])) (always (gather read)) (part.always_as_list read) v c.args.counts.now) _ _ _ (rw (c.in_ok-list.ensures.items, c.in-Some.is) at c.in-Ok.ensures))
