-- Elements that are chosen by flags.
use Rattle.std.proofs.Common.{◌≡◌, ℕ, zero, suc, ◌+◌, ◌*◌, ◌^◌, ◌<◌, ◌≤◌, Bool, true, false, List, [], ◌∷◌, ◌++◌, drop, take, length, sum, get_or, if◌then◌else◌, append-nil, refl, sym, ap, ◌∙◌, arith}
use Rattle.std.proofs.lemmas.List.{length-append, take_more}
use Rattle.std.proofs.lemmas.List.Sums.{sum_by_push}
use Rattle.build_meaning.specs.Trimming.{keep_from}
use Rattle.topo_model.specs.Uses.{answers, chosen}

-- where the flags are answers, they are those that pass
chosen_is : {X : Type 0} (u : ℕ → Bool) (n : ℕ) (xs : List X) → chosen (answers u n (length xs)) xs ≡ keep_from u n xs
chosen_is u n [] = refl
chosen_is u n (x ∷ xs) = ap (λ ys. if u n then x ∷ ys else ys) (chosen_is u (suc n) xs)

-- where the flags are the answers for as many numbers as there are elements, the chosen elements are those that pass
pub chosen_as : {X : Type 0} (u : ℕ → Bool) (n : ℕ) (flags : List Bool) (xs : List X) → flags ≡ answers u 0 n → n ≡ length xs → chosen flags xs ≡ keep_from u 0 xs
chosen_as u n flags xs are many = ap (λ bs. chosen bs xs) (are ∙ ap (answers u 0) many) ∙ chosen_is u 0 xs

of_none : {X : Type 0} (bs : List Bool) → chosen {X = X} bs [] ≡ []
of_none [] = refl
of_none (b ∷ bs) = refl

chosen_end : {X : Type 0} (bs : List Bool) (xs : List X) (x : X) → chosen bs (xs ++ x ∷ []) ≡ chosen bs xs ++ chosen (drop (length xs) bs) (x ∷ [])
chosen_end [] [] x = refl
chosen_end [] (y ∷ xs) x = refl
chosen_end (b ∷ bs) [] x = refl
chosen_end {X} (b ∷ bs) (y ∷ xs) x = grind (arith, chosen_end bs xs x)

-- one further along a list
pub following : {X : Type 0} (xs : List X) (n : ℕ) (x : X) (rest : List X) → x ∷ rest ≡ drop n xs → rest ≡ drop (suc n) xs
following [] zero x rest e = absurd cc
following [] (suc n) x rest e = absurd cc
following (y ∷ xs) zero x rest e = cc
following (y ∷ xs) (suc n) x rest e = following xs n x rest e

pub one_longer : {X : Type 0} (xs : List X) (x : X) → length (xs ++ x ∷ []) ≡ suc (length xs)
one_longer xs x = let l = length-append xs (x ∷ []) in omega (arith, l)

-- no further where nothing is left of it
pub no_more : {X : Type 0} (xs : List X) (n : ℕ) → [] ≡ drop n xs → [] ≡ drop (suc n) xs
no_more [] zero e = refl
no_more [] (suc n) e = refl
no_more (y ∷ xs) zero e = absurd cc
no_more (y ∷ xs) (suc n) e = no_more xs n e

-- what is chosen of the elements so far, and the flags of the others
abbrev pub Chooses : {X : Type 0} → List Bool → List X → List Bool → List X → Type 0
Chooses used xs flags kept = (flags ≡ drop (length xs) used) × (kept ≡ chosen used xs)

pub begins : {X : Type 0} (used : List Bool) (kept : List X) → kept ≡ [] → Chooses used [] used kept
begins used kept none = (refl, none ∙ sym (of_none used))

pub passed : {X : Type 0} (used flags : List Bool) (xs kept : List X) (x : X) → flags ≡ [] → Chooses used xs flags kept → Chooses used (xs ++ x ∷ []) flags kept
passed used flags xs kept x none so = grind (arith, no_more {X = Bool}, one_longer, append-nil, chosen_end)

more : {X : Type 0} (used flags rest : List Bool) (flag : Bool) (xs kept new : List X) (x : X) → flag ∷ rest ≡ flags → new ≡ kept ++ (if flag then x ∷ [] else []) → Chooses used xs flags kept
    → Chooses used (xs ++ x ∷ []) rest new
more used flags rest flag xs kept new x split is so = grind (arith, following {X = Bool}, one_longer, of_none, chosen_end)

pub left_out : {X : Type 0} (used flags rest : List Bool) (flag : Bool) (xs kept : List X) (x : X) → flag ∷ rest ≡ flags → flag ≡ false → Chooses used xs flags kept → Chooses used (xs ++ x ∷ []) rest kept
left_out used flags rest flag xs kept x split f so = more used flags rest flag xs kept kept x split (sym (ap (λ b. kept ++ (if b then x ∷ [] else [])) f ∙ append-nil kept)) so

pub taken : {X : Type 0} (used flags rest : List Bool) (flag : Bool) (xs kept new : List X) (x : X) → flag ∷ rest ≡ flags → flag ≡ true → new ≡ kept ++ x ∷ [] → Chooses used xs flags kept
    → Chooses used (xs ++ x ∷ []) rest new
taken used flags rest flag xs kept new x split t is so = more used flags rest flag xs kept new x split (is ∙ ap (λ b. kept ++ (if b then x ∷ [] else [])) (sym t)) so

-- ---- the sum of these

-- it is the sum of those that are chosen so far
pub record Counts (used : List Bool) (counts : List ℕ) (i : ℕ) (flags : List Bool) (total : ℕ) : Type 0 where
  pub kept : List ℕ
  pub chooses : Chooses used (take i counts) flags kept
  pub total_is : total ≡ sum kept
  pub small : total ≤ i * 2 ^ 64

pub counts_begin : (used : List Bool) (counts : List ℕ) → Counts used counts 0 used 0
counts_begin used counts = record { kept = []; chooses = (refl, sym (of_none used)); total_is = refl; small = omega arith }

pub counts_passed : (used flags : List Bool) (counts : List ℕ) (i total d : ℕ) → i < length counts → flags ≡ [] → Counts used counts i flags total → Counts used counts (i + 1) flags total
counts_passed used flags counts i total d lt none so = grind (arith, take_more counts i d lt, passed used flags (take i counts) so.kept (get_or counts i d) none so.chooses)

pub counts_left_out : (used flags rest : List Bool) (flag : Bool) (counts : List ℕ) (i total d : ℕ) → i < length counts → flag ∷ rest ≡ flags → flag ≡ false
    → Counts used counts i flags total → Counts used counts (i + 1) rest total
counts_left_out used flags rest flag counts i total d lt split f so = grind (arith, take_more counts i d lt, left_out used flags rest flag (take i counts) so.kept (get_or counts i d) split f so.chooses)

pub counts_taken : (used flags rest : List Bool) (flag : Bool) (counts : List ℕ) (i total new d : ℕ) → i < length counts → flag ∷ rest ≡ flags → flag ≡ true
    → new ≡ total + get_or counts i d → get_or counts i d < 2 ^ 64 → Counts used counts i flags total → Counts used counts (i + 1) rest new
counts_taken used flags rest flag counts i total new d lt split t n low so = record {
  kept = so.kept ++ get_or counts i d ∷ [];
  chooses = rw (take_more counts i d lt) (taken used flags rest flag (take i counts) so.kept (so.kept ++ get_or counts i d ∷ []) (get_or counts i d) split t refl so.chooses);
  total_is = n ∙ ap (λ m. m + get_or counts i d) so.total_is ∙ sym (sum_by_push (λ n. n) so.kept (get_or counts i d));
  small = let s = so.small in omega (arith, s, n, low);
}
