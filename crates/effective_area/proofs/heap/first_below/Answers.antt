use Rattle.std.proofs.Common.{◌*◌, ◌+◌, ◌≡◌, ℕ, Bool, not, length, arith, subst}
use mir.Val.{bool_byte}
use Rattle.std.proofs.HeapSift as sifts
use Rattle.std.specs.BinaryHeap.Sift.{IsGreaterChild}
use Rattle.effective_area.specs.Links.{queue_cmp}
use Rattle.effective_area.proofs.Heaps.{first_of_two}
use Rattle.effective_area.proofs.Queues.{queue_total}
use Rattle.effective_area.proofs.heap.first_below.Goals as goal

pub returns-then-heap-left-le1-clause-first : goal.returns-then-heap-left-le1-clause-first
returns-then-heap-left-le1-clause-first c = sifts.only_child (queue_cmp c.args.arc.now) (queue_total c.args.arc.now) c.args.heap.now c.args.at (2 * c.args.at + 1) (length c.args.heap.now) (omega arith) (omega (arith, c.requires, c.if-heap-left-le1.true))

pub returns-then-is_ahead-clause-first : goal.returns-then-is_ahead-clause-first
returns-then-is_ahead-clause-first c =
    let heap = c.args.heap.now in
    let left = 2 * c.args.at + 1 in
    let e : left + 0 ≡ left = omega arith in
    subst (λ (k : ℕ). IsGreaterChild (queue_cmp c.args.arc.now) heap c.args.at k (length heap)) e
    (subst (λ (b : Bool). IsGreaterChild (queue_cmp c.args.arc.now) heap c.args.at (left + bool_byte (not b)) (length heap)) c.if-is_ahead.true
    (first_of_two c.args.arc.now heap c.args.at c.index-heap-left.result c.index-heap-right.result c.is_ahead.result (omega (arith, c.requires, c.if-heap-left-le1.false)) c.index-heap-left.is c.index-heap-right.is c.is_ahead.ensures))

pub returns-clause-first : goal.returns-clause-first
returns-clause-first c =
    let heap = c.args.heap.now in
    let left = 2 * c.args.at + 1 in
    subst (λ (b : Bool). IsGreaterChild (queue_cmp c.args.arc.now) heap c.args.at (left + bool_byte (not b)) (length heap)) c.if-is_ahead.false
    (first_of_two c.args.arc.now heap c.args.at c.index-heap-left.result c.index-heap-right.result c.is_ahead.result (omega (arith, c.requires, c.if-heap-left-le1.false)) c.index-heap-left.is c.index-heap-right.is c.is_ahead.ensures)
