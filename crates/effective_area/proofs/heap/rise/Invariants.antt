use Rattle.std.proofs.Common.{◌≡◌, ◌≤◌, length}
use Rattle.std.specs.List.Sorted.{IsPermutation}
use Rattle.std.proofs.HeapSift as sifts
use Rattle.effective_area.specs.Links.{queue_cmp}
use Rattle.effective_area.proofs.Queues.{queue_total}
use Rattle.effective_area.proofs.heap.rise.Given as goal

-- only the entry that moves may be before the one above it
abbrev pub invariant-loop-at : goal.invariant-loop-at
invariant-loop-at l = record {
  within : l.at ≤ l.from;
  long : length l.heap.items ≡ length l.fn.heap.items;
  same : IsPermutation l.fn.heap.items l.heap.items;
  rising : sifts.Rising (queue_cmp l.arc) (queue_total l.arc) l.fn.heap.items l.from l.heap.items l.at;
}

abbrev pub decreases-loop-at : goal.decreases-loop-at
decreases-loop-at l = l.at
