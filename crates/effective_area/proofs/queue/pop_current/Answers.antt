use Rattle.std.proofs.Common.{◌++◌, Some, arith, subst}
use Rattle.std.specs.List.Sorted.{IsSorted}
use Rattle.effective_area.specs.Links.{LeavesCurrent, queue_cmp}
use Rattle.effective_area.proofs.Queues.{prefix_sorted}
use Rattle.effective_area.proofs.HeapLaws.{drops_stale, ends_dropped, takes_current}
use Rattle.effective_area.proofs.queue.pop_current.Goals as goal

pub returns-then-is_current-clause-left : goal.returns-then-is_current-clause-left
returns-then-is_current-clause-left c =
    let before : LeavesCurrent c.args.arc.now c.args.links.now (c.args.sorted.now.items ++ c.args.heap.now.items) (Some c.in-Some.entry) (c.pop_first.new.sorted.items ++ c.pop_first.new.heap.items) = grind (arith, takes_current) in
    ends_dropped c.args.arc.now c.args.links.now _ _ _ _ _ c.drop_stale.ensures.dropped before

pub returns-then-is_current-clause-sorted : goal.returns-then-is_current-clause-sorted
returns-then-is_current-clause-sorted c =
    let dropped = c.drop_stale.ensures.dropped in
    prefix_sorted c.args.arc.now c.drop_stale.new.sorted.items dropped.ends (subst (IsSorted (queue_cmp c.args.arc.now)) dropped.split c.in-Some.ensures.sorted)

pub loop-entry-preserved : goal.loop-entry-preserved
loop-entry-preserved c = grind (arith, drops_stale)
