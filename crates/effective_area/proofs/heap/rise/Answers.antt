use Rattle.std.proofs.Common.{◌-◌, ◌/◌, ◌<◌, length, arith, refl, subst, false, true}
use Rattle.std.specs.BinaryHeap.Sift.{ComparesAt}
use Rattle.std.proofs.lemmas.List.Sorted.{IsPermutation-refl, IsPermutation-swap, IsPermutation-trans}
use Rattle.std.proofs.HeapSift as sifts
use Rattle.effective_area.specs.Links.{queue_cmp}
use Rattle.effective_area.proofs.Heaps.{compares}
use Rattle.effective_area.proofs.Queues.{queue_total}
use Rattle.effective_area.proofs.heap.rise.Goals as goal

pub loop-at-init : goal.loop-at-init
loop-at-init c = record {
  within = omega arith;
  long = refl;
  same = IsPermutation-refl c.args.heap.now.items;
  rising = sifts.rise_begins (queue_cmp c.args.arc.now) (queue_total c.args.arc.now) c.args.heap.now.items c.args.from;
}

pub loop-at-preserved : goal.loop-at-preserved
loop-at-preserved c =
    let ps = c.args.arc.now in
    let l = c.loop-at in
    let room : l.at < length l.heap.items = omega (arith, l.invariant.within, l.invariant.long, c.requires) in
    let less : ComparesAt (queue_cmp ps) l.heap.items ((l.at - 1) / 2) l.at true = subst (λ r. ComparesAt (queue_cmp ps) l.heap.items ((l.at - 1) / 2) l.at r) c.if-not-is_ahead.false
    (compares ps l.heap.items l.at ((l.at - 1) / 2) c.index.result.now c.index-in-loop-at.result.now c.is_ahead.result room (omega (arith, room)) c.index.ensures c.index-in-loop-at.ensures c.is_ahead.ensures) in
    record {
      within = omega (arith, l.invariant.within);
      long = omega (arith, c.swap.ensures.len, l.invariant.long);
      same = IsPermutation-trans c.args.heap.now.items l.heap.items c.swap.new.self.items l.invariant.same (IsPermutation-swap l.heap.items c.swap.new.self.items ((l.at - 1) / 2) l.at (omega (arith, room)) room c.swap.ensures.items);
      rising = sifts.rise_steps (queue_cmp ps) (queue_total ps) c.args.heap.now.items l.heap.items c.swap.new.self.items c.args.from l.at (omega (arith, c.loop-at-test.true)) l.invariant.within room c.swap.ensures.items less l.invariant.rising;
    }

pub returns-then-not-is_ahead : goal.returns-then-not-is_ahead
returns-then-not-is_ahead c =
    let ps = c.args.arc.now in
    let l = c.loop-at in
    let room : l.at < length l.heap.items = omega (arith, l.invariant.within, l.invariant.long, c.requires) in
    let more : ComparesAt (queue_cmp ps) l.heap.items ((l.at - 1) / 2) l.at false = subst (λ r. ComparesAt (queue_cmp ps) l.heap.items ((l.at - 1) / 2) l.at r) c.if-not-is_ahead.true
    (compares ps l.heap.items l.at ((l.at - 1) / 2) c.index.result.now c.index-in-loop-at.result.now c.is_ahead.result room (omega (arith, room)) c.index.ensures c.index-in-loop-at.ensures c.is_ahead.ensures) in
    record { same = l.invariant.same; rises = sifts.rise_rests (queue_cmp ps) (queue_total ps) c.args.heap.now.items l.heap.items c.args.from l.at more l.invariant.rising }

pub returns : goal.returns
returns c =
    let ps = c.args.arc.now in
    let l = c.loop-at in
    record { same = l.invariant.same; rises = sifts.rise_tops (queue_cmp ps) (queue_total ps) c.args.heap.now.items l.heap.items c.args.from l.at (omega (arith, c.loop-at-test.false)) l.invariant.rising }
