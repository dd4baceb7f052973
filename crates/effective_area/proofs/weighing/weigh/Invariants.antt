use Rattle.std.proofs.Common.{◌++◌, ℕ, List}
use Rattle.std.specs.BinaryHeap.{IsHeap}
use Rattle.std.specs.List.Sorted.{IsSorted}
use Rattle.effective_area.specs.Links.{IsState, queue_cmp}
use Rattle.geometry.specs.Units.{area_limit}
use Rattle.effective_area.proofs.Weighed.{AreWeighed}
use Rattle.effective_area.proofs.weighing.weigh.Given as goal

-- the weights so far, and what is present
abbrev pub invariant-corners : goal.invariant-corners
invariant-corners l = record {
  sorted : IsSorted (queue_cmp l.arc) l.sorted.items;
  order : IsHeap (queue_cmp l.arc) l.heap.items;
  state : (vs : List ℕ) × IsState area_limit l.arc l.links (l.sorted.items ++ l.heap.items) l.left vs × AreWeighed l.arc l.level l.left vs l.weights;
}

abbrev pub decreases-corners : goal.decreases-corners
decreases-corners l = l.left
