-- A loop that changes the elements of a list in turn leaves those to come as they were.
use Rattle.std.proofs.Common.{◌≡◌, ◌≢◌, ℕ, ◌+◌, ◌≤◌, List, get_or, set, arith, ◌∙◌, get_or-set_other}

pub unvisited_after : {A : Type 0} (xs ys : List A) (i : ℕ) (y : A) → ((k : ℕ) (d : A) → i ≤ k → get_or ys k d ≡ get_or xs k d)
    → (k : ℕ) (d : A) → i + 1 ≤ k → get_or (set ys i y) k d ≡ get_or xs k d
unvisited_after xs ys i y before k d h =
    let other : k ≢ i = omega arith in
    get_or-set_other ys i k y d other ∙ before k d (omega arith)
