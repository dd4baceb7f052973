use Rattle.std.proofs.Common.{rules, tests, ◌<◌, length, arith, sym, ◌∙◌}
use Rattle.std.proofs.HeapSift.{greatest}
use Rattle.elimination_meaning.specs.Elimination.{is_before}
use Rattle.effective_area.proofs.Queues.{next_first, queue_total, top_first}
use Rattle.effective_area.proofs.queue.is_on_heap.Goals as goal

pub returns-clause-on_heap : goal.returns-clause-on_heap
returns-clause-on_heap c = λ h.
    let there : 0 < length c.args.heap.now = let k = c.if-is_empty.ensures in search (tests, rules) in
    top_first c.args.arc.now c.args.sorted.now c.args.heap.now c.index-sorted-n.result c.index-heap-0.result c.requires.sorted (omega (arith, c.if-n-eq0.false)) c.index-sorted-n.is
    (0, there, sym c.index-heap-0.is) (unfold is_before in sym c.is_ahead.ensures ∙ h)

pub returns-clause-sorted : goal.returns-clause-sorted
returns-clause-sorted c = λ h.
    next_first c.args.arc.now c.args.sorted.now c.args.heap.now c.index-sorted-n.result c.index-heap-0.result (omega (arith, c.if-n-eq0.false)) c.index-sorted-n.is
    (greatest (queue_total c.args.arc.now) c.args.heap.now c.index-heap-0.result c.index-heap-0.is c.requires.order) (unfold is_before in sym c.is_ahead.ensures ∙ h)
