use Rattle.std.proofs.Common.{◌≡◌, ◌+◌, ◌∷◌, [], ◌∙◌, length, ap, arith, sym, subst}
use Rattle.std.specs.List.Sorted.{IsPermutation}
use Rattle.std.proofs.lemmas.List.Sorted.{IsPermutation-append_comm, IsPermutation-trans, length_permutation}
use Rattle.std.proofs.lemmas.List.{length-append}
use Rattle.std.proofs.HeapSift as sifts
use Rattle.effective_area.specs.Links.{queue_cmp}
use Rattle.effective_area.proofs.Queues.{queue_total}
use Rattle.effective_area.proofs.heap.push.Goals as goal

pub returns-clause-order : goal.returns-clause-order
returns-clause-order c =
    let ps = c.args.arc.now in
    let xs = c.args.heap.now.items in
    let ys = c.push.new.self.items in
    let zs = c.rise.new.heap.items in
    let same = length_permutation ys zs c.rise.ensures.same in
    let longer : length ys ≡ length xs + 1 = ap length c.in_ok-push.ensures.items ∙ length-append xs (c.args.entry ∷ []) in
    sifts.pushed (queue_cmp ps) (queue_total ps) xs (c.args.entry ∷ []) ys zs c.len-at.result (omega (arith, c.len-at.ensures)) c.in_ok-push.ensures.items (omega (arith, same, longer, c.len-at.ensures)) c.rise.ensures.rises c.requires.order

pub returns-clause-permutation : goal.returns-clause-permutation
returns-clause-permutation c =
    let xs = c.args.heap.now.items in
    let x = c.args.entry in
    let ys = c.push.new.self.items in
    let put = subst (IsPermutation (x ∷ xs)) (sym c.in_ok-push.ensures.items) (IsPermutation-append_comm (x ∷ []) xs) in
    IsPermutation-trans (x ∷ xs) ys c.rise.new.heap.items put c.rise.ensures.same
