-- Flags that loops over parts set.
use Rattle.std.proofs.Common.{◌≡◌, ℕ, zero, suc, ◌+◌, ◌<◌, ◌≤◌, ◌==◌, Bool, true, false, ◌||◌, List, [], ◌∷◌, ◌++◌, length, take, drop, set, replicate, get_or, refl, sym, ap, ◌∙◌, arith, append-nil}
use Rattle.std.specs.List.{list_any}
use Rattle.std.proofs.Math.Bool.{or_assoc, or-false, or-true}
use Rattle.std.proofs.lemmas.List.{take_all, drop_all}
use Rattle.std.proofs.lemmas.List.Folds.{list_any_more}
use Rattle.topo_model.specs.Marks.{also_set}
use Rattle.topo_model.specs.Uses.{answers}

-- ---- flags

pub also_same : (p q : ℕ → Bool) (n : ℕ) (bs : List Bool) → ((i : ℕ) → p i ≡ q i) → also_set p n bs ≡ also_set q n bs
also_same p q n [] e = refl
also_same p q n (b ∷ bs) e = ap (λ z. (b || z) ∷ also_set p (suc n) bs) (e n) ∙ ap (λ zs. (b || q n) ∷ zs) (also_same p q (suc n) bs e)

pub also_twice : (p q : ℕ → Bool) (n : ℕ) (bs : List Bool) → also_set q n (also_set p n bs) ≡ also_set (λ i. p i || q i) n bs
also_twice p q n [] = refl
also_twice p q n (b ∷ bs) = ap (λ z. z ∷ also_set q (suc n) (also_set p (suc n) bs)) (or_assoc b (p n) (q n)) ∙ ap (λ zs. (b || (p n || q n)) ∷ zs) (also_twice p q (suc n) bs)

pub also_none : (p : ℕ → Bool) (n : ℕ) (bs : List Bool) → ((i : ℕ) → p i ≡ false) → also_set p n bs ≡ bs
also_none p n [] e = refl
also_none p n (b ∷ bs) e = ap (λ z. (b || z) ∷ also_set p (suc n) bs) (e n) ∙ ap (λ z. z ∷ also_set p (suc n) bs) (or-false b) ∙ ap (λ zs. b ∷ zs) (also_none p (suc n) bs e)

pub cleared : (p : ℕ → Bool) (n count : ℕ) → also_set p n (replicate count false) ≡ answers p n count
cleared p n zero = refl
cleared p n (suc count) = ap (λ zs. p n ∷ zs) (cleared p (suc n) count)

-- ---- one flag

differ : (k n : ℕ) → (k ≡ n → ⊥) → (k == n) ≡ false
differ k n ne = grind arith

equal : (k n : ℕ) → k ≡ n → (k == n) ≡ true
equal k n same = grind arith

unset : (b : Bool) (k n : ℕ) → (k ≡ n → ⊥) → b ≡ (b || (k == n))
unset b k n ne = sym (ap (λ z. b || z) (differ k n ne) ∙ or-false b)

-- none has this number
below_all : (k n : ℕ) (bs : List Bool) → k < n → bs ≡ also_set (λ m. k == m) n bs
below_all k n [] lt = refl
below_all k n (b ∷ bs) lt = ap (λ z. z ∷ bs) (unset b k n (λ e. omega (arith, lt, e))) ∙ ap (λ zs. (b || (k == n)) ∷ zs) (below_all k (suc n) bs (omega (arith, lt)))

above_all : (k n : ℕ) (bs : List Bool) → n + length bs ≤ k → bs ≡ also_set (λ m. k == m) n bs
above_all k n [] le = refl
above_all k n (b ∷ bs) le = ap (λ z. z ∷ bs) (unset b k n (λ e. omega (arith, le, e))) ∙ ap (λ zs. (b || (k == n)) ∷ zs) (above_all k (suc n) bs (omega (arith, le)))

set_at : (k n i : ℕ) (bs : List Bool) → k ≡ n + i → i < length bs → set bs i true ≡ also_set (λ m. k == m) n bs
set_at k n i [] e lt = absurd (omega (arith, lt))
set_at k n zero (b ∷ bs) e lt = grind (arith, equal, or-true, below_all)
set_at k n (suc i) (b ∷ bs) e lt = ap (λ z. z ∷ set bs i true) (unset b k n (λ s. omega (arith, e, s))) ∙ ap (λ zs. (b || (k == n)) ∷ zs) (set_at k (suc n) i bs (omega (arith, e)) (omega (arith, lt)))

pub one_set : (k : ℕ) (bs : List Bool) → k < length bs → set bs k true ≡ also_set (λ m. k == m) 0 bs
one_set k bs lt = set_at k 0 k bs (omega arith) lt

pub none_set : (k : ℕ) (bs : List Bool) → length bs ≤ k → bs ≡ also_set (λ m. k == m) 0 bs
none_set k bs le = above_all k 0 bs (omega (arith, le))

pub index_set : (used new : List Bool) (k i : ℕ) → i ≡ k → i < length used → new ≡ set used i true → new ≡ also_set (λ m. k == m) 0 used
index_set used new k i e lt is = is ∙ ap (λ j. set used j true) e ∙ one_set k used (rw e at lt)

pub index_passed : (used new : List Bool) (k i : ℕ) → i ≡ k → length used ≤ i → new ≡ used → new ≡ also_set (λ m. k == m) 0 used
index_passed used new k i e le is = is ∙ none_set k used (rw e at le)

-- ---- a loop over parts

module _ {X : Type 0} (names : X → ℕ → Bool) where
  -- one of the parts does
  abbrev pub any_of : List X → ℕ → Bool
  any_of xs n = list_any (λ x. names x n) xs

  pub begins : (bs : List Bool) (xs : List X) → bs ≡ also_set (any_of (take 0 xs)) 0 bs
  begins bs xs = sym (also_none (any_of []) 0 bs (λ i. refl))

  pub marks_more : (before now new : List Bool) (xs : List X) (i : ℕ) (x : X) → i < length xs → x ≡ get_or xs i x → now ≡ also_set (any_of (take i xs)) 0 before → new ≡ also_set (names x) 0 now
      → new ≡ also_set (any_of (take (i + 1) xs)) 0 before
  marks_more before now new xs i x lt is k e =
      e ∙ ap (also_set (names x) 0) k ∙ also_twice (any_of (take i xs)) (names x) 0 before
      ∙ also_same (λ n. any_of (take i xs) n || names x n) (any_of (take (i + 1) xs)) 0 before
      (λ n. sym (list_any_more (λ y. names y n) xs i x lt ∙ ap (λ y. any_of (take i xs) n || names y n) (sym is)))

-- what is written back into a vector is all of it
pub written_back : {X : Type 0} (count : ℕ) (new old : List X) → count ≡ length old → length new ≡ length old → take count (new ++ drop (length new) old) ≡ new
written_back count new old c e =
    ap (λ zs. take count (new ++ zs)) (drop_all (length new) old (omega (arith, e))) ∙ ap (take count) (append-nil new) ∙ take_all count new (omega (arith, c, e))
