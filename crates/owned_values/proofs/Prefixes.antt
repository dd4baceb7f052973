-- What holds of the elements in front of one.
use Rattle.std.proofs.Common.{◌≡◌, ℕ, ◌+◌, ◌<◌, List, [], ◌∷◌, take, get_or, length, subst, sym}
use Rattle.std.specs.List.{AllByRecursion}
use Rattle.owned_values.proofs.Elements.{all_append}
use Rattle.owned_values.proofs.Lists.{take_here}

-- one element more
pub all_more : {A : Type 0} (P : A → Type 0) (xs : List A) (i : ℕ) (x : A) → i < length xs → x ≡ get_or xs i x → AllByRecursion P (take i xs) → P x → AllByRecursion P (take (i + 1) xs)
all_more P xs i x lt is h p = subst (AllByRecursion P) (sym (take_here xs i x lt is)) (all_append P (take i xs) (x ∷ []) h (p, tt))
