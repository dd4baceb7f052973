use Rattle.std.proofs.Common.{◌+◌, ◌++◌, ◌≤◌, None, vec_len}
use Rattle.std.specs.BinaryHeap.{IsHeap}
use Rattle.std.specs.List.Sorted.{IsSorted}
use Rattle.effective_area.specs.Links.{LeavesCurrent, queue_cmp}
use Rattle.effective_area.proofs.queue.pop_current.Given as goal

-- only stale entries are gone
abbrev pub invariant-loop-entry : goal.invariant-loop-entry
invariant-loop-entry l = record {
  fewer : vec_len l.sorted + vec_len l.heap ≤ vec_len l.initial.sorted + vec_len l.initial.heap;
  sorted : IsSorted (queue_cmp l.arc) l.sorted.items;
  order : IsHeap (queue_cmp l.arc) l.heap.items;
  left : LeavesCurrent l.arc l.links (l.initial.sorted.items ++ l.initial.heap.items) None (l.sorted.items ++ l.heap.items);
}

abbrev pub decreases-loop-entry : goal.decreases-loop-entry
decreases-loop-entry l = vec_len l.sorted + vec_len l.heap
