use Rattle.std.proofs.Common.{◌≡◌, ◌∙◌, arith, inl, length, subst, sym}
use Rattle.effective_area.specs.Capped.{AreFilled, IsCapped}
use Rattle.effective_area.specs.Weights.{weights_of}
use Rattle.std.proofs.HeapSift.{empty}
use Rattle.effective_area.proofs.Queues.{queue_total}
use Rattle.effective_area.proofs.Stopped.{filled, weights_length, written_over}
use Rattle.effective_area.proofs.Weighed.{short_weights}
use Rattle.effective_area.proofs.weighing.weights_until.Goals as goal

pub returns-then-arc-lt2 : goal.returns-then-arc-lt2
returns-then-arc-lt2 c = inl (short_weights c.args.arc.now c.in_ok-weights.weights.items c.if-arc-lt2.true c.in_ok-weights.ensures.ends)

pub returns : goal.returns
returns c =
    let ws = weights_of c.args.arc.now in
    let len = c.in_ok-weights.weights.len in
    let items = c.in_ok-weights.weights.items in
    let found = c.weigh.new.weights in
    let new = c.fill.new.weights in
    let first : len ≡ length found = omega (arith, c.in_ok-level.ensures.size, weights_length c.args.arc.now, c.deref_mut-2.ensures.len, c.in_ok-weights.ensures.ends, c.weigh.auto.weights) in
    let other : len ≡ length new = omega (arith, c.in_ok-level.ensures.size, weights_length c.args.arc.now, c.deref_mut-2.ensures.len, c.fill.ensures.size, c.fill.auto.weights, first) in
    let over = written_over len found items first in
    subst (IsCapped c.args.most ws) (sym (written_over len new _ other))
    (filled c.args.most c.in_ok-level.level ws found new c.in_ok-level.ensures (subst (λ l. AreFilled c.in_ok-level.level l new) (c.deref_mut-3.ensures.value ∙ over) c.fill.ensures))

pub weigh-requires-clause-order : goal.weigh-requires-clause-order
weigh-requires-clause-order c = empty (queue_total c.args.arc.now) c.new-heap.result.items c.new-heap.ensures.items
