-- The places of keys, where one test of equality decides as another.
use Rattle.std.proofs.Common.{◌≡◌, ℕ, Bool, true, false, List, [], ◌∷◌, position, Option, None, Some, IfSome, slice_get, refl, ap, sym, ◌∙◌, arith}
use Rattle.junctions.proofs.Names.{slice_get-get_or, list_any}
use Rattle.std.proofs.lemmas.List.Quantifiers.{position-Some}
use Rattle.junctions.specs.Numbering.{with_key}

module _ {K : Type 0} (eq same : K → K → Bool) (alike : (a b : K) → eq a b ≡ same a b) where
  pub same_keys : (ks : List K) (k : K) → with_key eq ks k ≡ with_key same ks k
  same_keys ks k = λ i. with_key (λ a b. alike a b i) ks k

  pub same_place : (ks : List K) (k : K) → position (eq k) ks ≡ position (same k) ks
  same_place ks k = λ i. position (λ b. alike k b i) ks

-- the key is where it was found
pub at_place : {K : Type 0} (same : K → K → Bool) → ((a b : K) → same a b ≡ true → a ≡ b) → (ks : List K) (k : K) (n : ℕ)
    → position (same k) ks ≡ Some n → slice_get ks n ≡ Some k
at_place same is ks k n e =
    let p = position-Some (same k) ks n k e in
    slice_get-get_or ks n k p.0 ∙ ap (λ x. Some x) (sym (is k _ p.1))

pub found_at : {K : Type 0} (same : K → K → Bool) → ((a b : K) → same a b ≡ true → a ≡ b) → (ks : List K) (k : K) (r : Option ℕ)
    → r ≡ position (same k) ks → IfSome r (λ n. slice_get ks n ≡ Some k)
found_at same is ks k None e = tt
found_at same is ks k (Some n) e = at_place same is ks k n (sym e)

-- and it is none of them where it was not
pub no_place : {K : Type 0} (test : K → Bool) (ks : List K) → position test ks ≡ None → list_any test ks ≡ false
no_place test [] e = refl
no_place test (x ∷ xs) e = grind (arith, no_place test xs)
