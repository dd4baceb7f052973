use Rattle.std.proofs.Common.{◌<◌, ℕ, length, arith, refl, subst, false, true}
use Rattle.std.specs.BinaryHeap.Sift.{ComparesAt, IsGreaterChild}
use Rattle.std.proofs.lemmas.List.Sorted.{IsPermutation-refl, IsPermutation-swap, IsPermutation-trans}
use Rattle.std.proofs.HeapSift as sifts
use Rattle.effective_area.specs.Links.{queue_cmp}
use Rattle.effective_area.proofs.Heaps.{compares}
use Rattle.effective_area.proofs.Queues.{queue_total}
use Rattle.effective_area.proofs.heap.sink.Goals as goal

pub loop-at-init : goal.loop-at-init
loop-at-init c = record {
  long = refl;
  same = IsPermutation-refl c.args.heap.now.items;
  sinking = sifts.sink_begins (queue_cmp c.args.arc.now) (queue_total c.args.arc.now) c.args.heap.now.items 0 (length c.args.heap.now.items);
}

pub loop-at-preserved : goal.loop-at-preserved
loop-at-preserved c =
    let ps = c.args.arc.now in
    let l = c.loop-at in
    let below = c.first_below-child.ensures in
    let child = c.first_below-child.result in
    let seen = c.deref.ensures.value in
    let within : child < length l.heap.items = subst (λ xs. child < length xs) seen below.within in
    let first : IsGreaterChild (queue_cmp ps) l.heap.items l.at child (length c.args.heap.now.items) = subst (λ (n : ℕ). IsGreaterChild (queue_cmp ps) l.heap.items l.at child n) l.invariant.long (subst (λ xs. IsGreaterChild (queue_cmp ps) xs l.at child (length xs)) seen below.first) in
    let less : ComparesAt (queue_cmp ps) l.heap.items l.at child true = subst (λ r. ComparesAt (queue_cmp ps) l.heap.items l.at child r) c.if-not-is_ahead.false
    (compares ps l.heap.items child l.at c.index.result.now c.index-in-loop-at.result.now c.is_ahead.result within (omega (arith, below.from, within)) c.index.ensures c.index-in-loop-at.ensures c.is_ahead.ensures) in
    record {
      long = omega (arith, c.swap.ensures.len, l.invariant.long);
      same = IsPermutation-trans c.args.heap.now.items l.heap.items c.swap.new.self.items l.invariant.same (IsPermutation-swap l.heap.items c.swap.new.self.items l.at child (omega (arith, below.from, within)) within c.swap.ensures.items);
      sinking = sifts.sink_steps (queue_cmp ps) (queue_total ps) c.args.heap.now.items l.heap.items c.swap.new.self.items 0 (length c.args.heap.now.items) l.at child (omega arith) (omega (arith, below.from)) (omega (arith, below.to)) (omega (arith, within, l.invariant.long)) (omega (arith, l.invariant.long)) c.swap.ensures.items
          first less l.invariant.sinking;
    }

pub returns-then-not-is_ahead : goal.returns-then-not-is_ahead
returns-then-not-is_ahead c =
    let ps = c.args.arc.now in
    let l = c.loop-at in
    let below = c.first_below-child.ensures in
    let child = c.first_below-child.result in
    let seen = c.deref.ensures.value in
    let within : child < length l.heap.items = subst (λ xs. child < length xs) seen below.within in
    let first : IsGreaterChild (queue_cmp ps) l.heap.items l.at child (length c.args.heap.now.items) = subst (λ (n : ℕ). IsGreaterChild (queue_cmp ps) l.heap.items l.at child n) l.invariant.long (subst (λ xs. IsGreaterChild (queue_cmp ps) xs l.at child (length xs)) seen below.first) in
    let more : ComparesAt (queue_cmp ps) l.heap.items l.at child false = subst (λ r. ComparesAt (queue_cmp ps) l.heap.items l.at child r) c.if-not-is_ahead.true
    (compares ps l.heap.items child l.at c.index.result.now c.index-in-loop-at.result.now c.is_ahead.result within (omega (arith, below.from, within)) c.index.ensures c.index-in-loop-at.ensures c.is_ahead.ensures) in
    record {
      same = l.invariant.same;
      sinks = sifts.sink_rests (queue_cmp ps) (queue_total ps) c.args.heap.now.items l.heap.items 0 (length c.args.heap.now.items) l.at child
          first more l.invariant.sinking;
    }

pub returns : goal.returns
returns c =
    let ps = c.args.arc.now in
    let l = c.loop-at in
    record { same = l.invariant.same; sinks = sifts.sink_ends (queue_cmp ps) (queue_total ps) c.args.heap.now.items l.heap.items 0 (length c.args.heap.now.items) l.at (omega (arith, c.loop-at-test.false)) l.invariant.sinking }
