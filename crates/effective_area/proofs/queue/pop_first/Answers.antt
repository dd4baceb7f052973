use Rattle.std.proofs.Common.{arith, ◌++◌, List, subst}
use Rattle.std.specs.BinaryHeap.{IsUpperBound}
use Rattle.effective_area.specs.Links.{GoesFirst, queue_cmp}
use Rattle.effective_area.specs.declared.entry.Entry.{Entry}
use Rattle.effective_area.proofs.Queues.{off_heap, first_on_heap, popped, popped_first, some_also}
use Rattle.effective_area.proofs.queue.pop_first.Goals as goal

pub returns-then-is_on_heap-clause-permutation : goal.returns-then-is_on_heap-clause-permutation
returns-then-is_on_heap-clause-permutation c = grind (arith, some_also, off_heap)

pub returns-then-is_on_heap-clause-first : goal.returns-then-is_on_heap-clause-first
returns-then-is_on_heap-clause-first c =
    let ps = c.args.arc.now in
    let sorted = c.args.sorted.now.items in
    let heap = c.args.heap.now.items in
    let first : GoesFirst ps heap sorted = subst (λ (l : List Entry). GoesFirst ps l sorted) c.deref-2.ensures.value (subst (λ (l : List Entry). GoesFirst ps c.deref-2.result.now l) c.deref.ensures.value (c.is_on_heap.ensures.on_heap c.if-is_on_heap.true)) in
    some_also (λ (e : Entry). IsUpperBound (queue_cmp ps) e heap) (λ (e : Entry). IsUpperBound (queue_cmp ps) e (sorted ++ heap)) c.pop.result
    (λ e p. first_on_heap ps sorted heap e first p) c.pop.ensures.first

pub returns-clause-permutation : goal.returns-clause-permutation
returns-clause-permutation c = popped c.pop-2.result c.args.sorted.now.items c.pop-2.new.self.items c.args.heap.now.items c.pop-2.ensures.items

pub returns-clause-first : goal.returns-clause-first
returns-clause-first c =
    let ps = c.args.arc.now in
    let sorted = c.args.sorted.now.items in
    let heap = c.args.heap.now.items in
    let first : GoesFirst ps sorted heap = subst (λ (l : List Entry). GoesFirst ps sorted l) c.deref-2.ensures.value (subst (λ (l : List Entry). GoesFirst ps l c.deref-2.result.now) c.deref.ensures.value (c.is_on_heap.ensures.sorted c.if-is_on_heap.false)) in
    popped_first ps c.pop-2.result sorted c.pop-2.new.self.items heap c.requires.sorted c.pop-2.ensures.items first
