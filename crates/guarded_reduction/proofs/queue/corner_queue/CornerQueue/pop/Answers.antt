use Rattle.std.specs.BinaryHeap.{heap_items}
use Rattle.guarded_reduction.proofs.Queues.{first_of_sorted, first_on_heap, off_heap}
use Rattle.guarded_reduction.proofs.queue.corner_queue.CornerQueue.pop.Goals as goal

pub returns-then-is_on_heap-clause-permutation : goal.returns-then-is_on_heap-clause-permutation
returns-then-is_on_heap-clause-permutation c = off_heap c.pop.result c.self.inside.sorted.items (heap_items c.self.inside.heap) (heap_items c.pop.new.self) c.args.self.now c.self.view_is c.pop.ensures.permutation

pub returns-then-is_on_heap-clause-first : goal.returns-then-is_on_heap-clause-first
returns-then-is_on_heap-clause-first c =
    first_on_heap c.pop.result c.self.inside.sorted.items (heap_items c.self.inside.heap) (heap_items c.pop.new.self) c.args.self.now c.self.view_is c.self.invariant.1
    (rw c.deref.ensures.value at (c.is_on_heap.ensures.on_heap c.if-is_on_heap.true)) c.pop.ensures.heap_order

pub returns-clause-first : goal.returns-clause-first
returns-clause-first c =
    first_of_sorted c.pop-2.result c.self.inside.sorted.items c.pop-2.new.self.items (heap_items c.self.inside.heap) c.args.self.now c.self.view_is c.self.invariant.0
    (rw c.deref.ensures.value at (c.is_on_heap.ensures.sorted c.if-is_on_heap.false)) c.pop-2.ensures.items
