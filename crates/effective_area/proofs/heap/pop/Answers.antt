use Rattle.std.proofs.Common.{◌∷◌, length, arith, subst, sym}
use Rattle.std.specs.BinaryHeap.{PopsGreatest}
use Rattle.std.specs.List.Sorted.{IsPermutation}
use Rattle.std.proofs.lemmas.List.Sorted.{IsPermutation-cons, IsPermutation-swap_remove, IsPermutation-trans, length_permutation}
use Rattle.std.proofs.HeapSift as sifts
use Rattle.effective_area.specs.Links.{queue_cmp}
use Rattle.effective_area.proofs.Heaps.{restored}
use Rattle.effective_area.proofs.Queues.{queue_total}
use Rattle.effective_area.proofs.heap.pop.Goals as goal

pub returns : goal.returns
returns c =
    let ps = c.args.arc.now in
    let xs = c.args.heap.now.items in
    let x = c.swap_remove-first.result in
    let took = c.swap_remove-first.ensures in
    let ys = c.swap_remove-first.new.self.items in
    let zs = c.sink.new.heap.items in
    let same = length_permutation ys zs c.sink.ensures.same in
    let popped : PopsGreatest (queue_cmp ps) xs x zs = sifts.popped (queue_cmp ps) (queue_total ps) xs ys zs x (length ys) (omega arith) took.value took.items (restored ps ys zs same c.sink.ensures.sinks) in
    let order = popped c.requires.order in
    record {
      order = order.0;
      permutation = IsPermutation-trans xs (x ∷ ys) (x ∷ zs) (subst (λ l. IsPermutation xs (x ∷ l)) (sym took.items) (IsPermutation-swap_remove xs 0 x (omega arith) took.value)) (IsPermutation-cons x ys zs c.sink.ensures.same);
      first = order.1;
      fewer = omega (arith, same);
      none = tt;
      empty = tt;
    }
