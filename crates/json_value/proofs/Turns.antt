-- Lists that are read one value after another.
use Rattle.std.proofs.lemmas.List.{drop_all}
use Rattle.std.proofs.Common.{◌≡◌, ℕ, ◌+◌, ◌≤◌, List, [], ◌++◌, length, drop, Result, Ok, Err}
pub use Rattle.owned_values.proofs.Lists.{drop_here}

-- what is read, after these
abbrev pub with_prefix : {C E B : Type 0} → List B → Result (List B × C) E → Result (List B × C) E
with_prefix prefix (Ok x) = Ok (prefix ++ x.0, x.1)
with_prefix prefix (Err e) = Err e

-- nothing is left at the end
pub drop_end : {A : Type 0} (i : ℕ) (vs : List A) → length vs ≤ i → drop i vs ≡ []
drop_end i vs le = drop_all i vs le
