-- Lists that are put in another order.
use Rattle.std.proofs.Common.{◌≡◌, ℕ, List, ◌++◌, length, take, drop, sym, subst, ◌∙◌}
use Rattle.std.specs.List.Sorted.{IsPermutation}
use Rattle.std.proofs.lemmas.List.Sorted.{length_permutation}
use Rattle.effective_area.proofs.Stopped.{written_over}

-- what is put in another order is written back whole
pub permuted : {X : Type 0} (n : ℕ) (xs ys zs : List X) → n ≡ length xs → ys ≡ xs → IsPermutation ys zs → IsPermutation xs (take n (zs ++ drop (length zs) xs))
permuted n xs ys zs h e p =
    let q = subst (λ ws. IsPermutation ws zs) e p in
    subst (IsPermutation xs) (sym (written_over n zs xs (h ∙ sym (length_permutation xs zs q)))) q
