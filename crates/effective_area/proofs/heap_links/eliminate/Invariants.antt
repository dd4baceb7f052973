use Rattle.std.proofs.Common.{◌-◌, ◌*◌, ◌≤◌, ◌++◌, ℕ, List, length}
use Rattle.effective_area.specs.Counts.{RoseAtMost}
use Rattle.std.specs.BinaryHeap.{IsHeap}
use Rattle.std.specs.List.Sorted.{IsSorted}
use Rattle.effective_area.specs.Links.{IsState, queue_cmp}
use Rattle.effective_area.proofs.heap_links.eliminate.Given as goal

-- what is present is reduced to the same
abbrev pub invariant-corners : goal.invariant-corners
invariant-corners l = record {
  sorted : IsSorted (queue_cmp l.arc) l.sorted.items;
  order : IsHeap (queue_cmp l.arc) l.heap.items;
  few : l.left ≤ length l.arc - 2;
  counted : RoseAtMost (2 * (length l.arc - 2 - l.left)) l.fn.steps l.steps;
  state : (vs : List ℕ) × IsState l.t l.arc l.links (l.sorted.items ++ l.heap.items) l.left vs;
}

abbrev pub decreases-corners : goal.decreases-corners
decreases-corners l = l.left
