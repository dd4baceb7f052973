use Rattle.std.proofs.Common.{ap, sym, ◌∙◌}
use Rattle.std.specs.BinaryHeap.{heap_items}
use Rattle.std.specs.Ordering.{is_lt}
use Rattle.guarded_reduction.proofs.Queues.{last_first, top_first}
use Rattle.guarded_reduction.proofs.queue.corner_queue.is_on_heap.Goals as goal

pub returns-clause-on_heap : goal.returns-clause-on_heap
returns-clause-on_heap c = λ h.
    let last = c.in-Some-last.ensures.item in
    let top = c.in-Some.ensures.item in
    top_first c.args.sorted.now (heap_items c.args.heap.now) c.in-Some-last.last.now c.in-Some.top.now c.requires.sorted last.3.0 last.1 (0, top.3.0, sym top.1) (ap is_lt (sym c.cmp.ensures) ∙ sym c.is_lt.ensures ∙ h)

pub returns-clause-sorted : goal.returns-clause-sorted
returns-clause-sorted c = λ h.
    let last = c.in-Some-last.ensures.item in
    last_first c.args.sorted.now (heap_items c.args.heap.now) c.in-Some-last.last.now c.in-Some.top.now last.3.0 last.1 (c.in-Some.ensures.greatest c.requires.order) (ap is_lt (sym c.cmp.ensures) ∙ sym c.is_lt.ensures ∙ h)
