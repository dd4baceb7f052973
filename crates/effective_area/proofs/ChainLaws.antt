-- Chains of links, and one removed.
use Rattle.std.proofs.Common.{◌≡◌, ◌≢◌, ℕ, ◌<◌, ◌≤◌, true, false, cond, not, eqb, List, [], ◌∷◌, Some, refl, ap, sym, ◌∙◌, subst, arith, ◌⊎◌, inl, inr}
use Rattle.std.specs.List.{filter, AllByRecursion}
use Rattle.std.proofs.lemmas.Bool.Decides.{nat_tests}
use Rattle.geometry.specs.Lists.{In}
use Rattle.geometry.specs.Points.{Point}
use Rattle.elimination_meaning.specs.Elimination.{Corner, corner_at, corners_from, least, is_before}
use Rattle.effective_area.specs.Vertices.{vertex_at, vertices}
use Rattle.elimination_meaning.proofs.Order.{one_corner}
use Rattle.elimination_meaning.proofs.Steps.{least_holds}
use Rattle.effective_area.specs.Chains.{Chain, last_of}

ne_test : (v i : ℕ) → v ≢ i → not (eqb v i) ≡ true
ne_test v i h = grind (arith, nat_tests)

eq_test : (i : ℕ) → not (eqb i i) ≡ false
eq_test i = grind (arith, nat_tests)

pub same_or_not : (v i : ℕ) → (v ≡ i) ⊎ (v ≢ i)
same_or_not v i = grind arith

pub keep_step : (i v : ℕ) (vs : List ℕ) → v ≢ i → filter (λ j. not (eqb j i)) (v ∷ vs) ≡ v ∷ filter (λ j. not (eqb j i)) vs
keep_step i v vs h = ap (λ b. cond b (v ∷ filter (λ j. not (eqb j i)) vs) (filter (λ j. not (eqb j i)) vs)) (ne_test v i h)

pub drop_step : (i v : ℕ) (vs : List ℕ) → v ≡ i → filter (λ j. not (eqb j i)) (v ∷ vs) ≡ filter (λ j. not (eqb j i)) vs
drop_step i v vs e = ap (λ b. cond b (v ∷ filter (λ j. not (eqb j i)) vs) (filter (λ j. not (eqb j i)) vs)) (ap (λ j. not (eqb j i)) e ∙ eq_test i)

module _ (after before : ℕ → ℕ) where
  -- those after u are greater
  pub above_from : (t u : ℕ) (vs : List ℕ) → t ≤ u → Chain after before u vs → AllByRecursion (λ v. t < v) vs
  above_from t u [] l h = tt
  above_from t u (v ∷ vs) l h = (omega (arith, h.2), above_from t v vs (omega (arith, h.2)) h.3)

  -- one that is linked comes after the one that it names
  pub named : (u : ℕ) (vs : List ℕ) (i : ℕ) → Chain after before u vs → In i vs → (u ≤ before i) × (before i < i)
  named u [] i h k = elim k [ ]
  named u (v ∷ vs) i h (inl e) = (omega (arith, h.1, ap before e), omega (arith, h.1, h.2, ap before e))
  named u (v ∷ vs) i h (inr k) = let n = named v vs i h.3 k in (omega (arith, h.2, n.0), n.1)

  -- a chain is one too under functions that agree with those of the chain from its first element on
  pub chain_same : (after' before' : ℕ → ℕ) (t u : ℕ) (vs : List ℕ) → t ≤ u →
      ((v : ℕ) → t ≤ v → after' v ≡ after v) → ((v : ℕ) → t < v → before' v ≡ before v) → Chain after before u vs → Chain after' before' u vs
  chain_same after' before' t u [] l f g h = tt
  chain_same after' before' t u (v ∷ vs) l f g h = (f u l ∙ h.0, g v (omega (arith, h.2)) ∙ h.1, h.2, chain_same after' before' t v vs (omega (arith, h.2)) f g h.3)

  -- greater than i: a filter leaves them
  pub kept_above : (i : ℕ) (vs : List ℕ) → AllByRecursion (λ v. i < v) vs → filter (λ j. not (eqb j i)) vs ≡ vs
  kept_above i [] h = refl
  kept_above i (v ∷ vs) h = ap (λ b. cond b (v ∷ filter (λ j. not (eqb j i)) vs) (filter (λ j. not (eqb j i)) vs)) (ne_test v i (λ e. absurd (omega (arith, h.0)))) ∙ ap (λ l. v ∷ l) (kept_above i vs h.1)

  -- the chain without i, once its neighbours are linked to each other
  module _ (after' before' : ℕ → ℕ) (i b : ℕ)
      (bridge : after' (before i) ≡ b) (others : (v : ℕ) → v ≢ before i → after' v ≡ after v)
      (bridge_back : before' b ≡ before i) (others_back : (v : ℕ) → v ≢ b → v ≢ i → before' v ≡ before v)
      (follows : after i ≡ b) (later : i < b) where
    pub cut_out : (u : ℕ) (vs : List ℕ) → Chain after before u vs → In i vs → last_of u vs ≢ i → Chain after' before' u (filter (λ j. not (eqb j i)) vs)
    cut_out u [] h k n = tt
    cut_out u (v ∷ []) h (inl e) n = absurd (n (sym e))
    cut_out u (v ∷ []) h (inr k) n = elim k [ ]
    cut_out u (v ∷ (w ∷ ws)) h k n = by_case (λ m. cut_out v (w ∷ ws) h.3 m n) (same_or_not v i)
      where
        there : In i (v ∷ (w ∷ ws)) → v ≢ i → In i (w ∷ ws)
        there (inl e) m = absurd (m (sym e))
        there (inr k) m = k

        by_case : (In i (w ∷ ws) → Chain after' before' v (filter (λ j. not (eqb j i)) (w ∷ ws))) → (v ≡ i) ⊎ (v ≢ i) → Chain after' before' u (filter (λ j. not (eqb j i)) (v ∷ (w ∷ ws)))
        by_case ih (inl e) =
            let eu : before i ≡ u = ap before (sym e) ∙ h.1 in
            let ew : b ≡ w = sym follows ∙ ap after (sym e) ∙ h.3.0 in
            let iw : i < w = omega (arith, h.3.2) in
            let uw : u < w = omega (arith, h.2, h.3.2) in
            let rest : Chain after' before' w ws = chain_same after' before' w w ws (omega arith) (λ v l. others v (λ e. absurd (omega (arith, e, eu)))) (λ v l. others_back v (λ e. absurd (omega (arith, e, ew))) (λ e. absurd (omega (arith, e)))) h.3.3 in
            let all : AllByRecursion (λ v. i < v) (w ∷ ws) = (iw, above_from i w ws (omega arith) h.3.3) in
            let done : Chain after' before' u (w ∷ ws) = (ap after' (sym eu) ∙ bridge ∙ ew, ap before' (sym ew) ∙ bridge_back ∙ eu, uw, rest) in
            subst (λ l. Chain after' before' u l) (sym (drop_step i v (w ∷ ws) e ∙ kept_above i (w ∷ ws) all)) done
        by_case ih (inr m) =
            let k' = there k m in
            let named_at = named v (w ∷ ws) i h.3 k' in
            let l1 : v ≤ before i = named_at.0 in
            let l2 : before i < i = named_at.1 in
            let l3 : u < v = h.2 in
            let done : Chain after' before' u (v ∷ filter (λ j. not (eqb j i)) (w ∷ ws)) = (others u (λ e. absurd (omega (arith, e))) ∙ h.0, others_back v (λ e. absurd (omega (arith, e))) m ∙ h.1, l3, ih k') in
            subst (λ l. Chain after' before' u l) (sym (keep_step i v (w ∷ ws) m)) done

  -- what holds of the corner at each index between the ends
  pub all_corners : (P : Corner → Type 0) (ps : List Point) (a b : ℕ) (vs : List ℕ) → Chain after before a (b ∷ vs) →
      ((v : ℕ) → a < v → In v (b ∷ vs) → v < last_of b vs → P (corner_at (vertex_at ps (before v)) (vertex_at ps v) (vertex_at ps (after v)))) →
      AllByRecursion P (corners_from (vertex_at ps a) (vertex_at ps b) (vertices ps vs))
  all_corners P ps a b [] h f = tt
  all_corners P ps a b (c ∷ vs) h f = (
    subst (λ x. P (corner_at (vertex_at ps x) (vertex_at ps b) (vertex_at ps c))) h.1
        (subst (λ x. P (corner_at (vertex_at ps (before b)) (vertex_at ps b) (vertex_at ps x))) h.3.0 (f b h.2 (inl refl) (below b c vs h.3))),
    all_corners P ps b c vs h.3 (λ v l k m. f v (omega (arith, h.2)) (inr k) m),
  )
    where
      below : (b c : ℕ) (vs : List ℕ) → Chain after before b (c ∷ vs) → b < last_of c vs
      below b c [] h = h.2
      below b c (d ∷ vs) h = let k = below c d vs h.3 in omega (arith, h.2, k)

  -- the corner at an index between the ends is among the corners
  pub in_corners : (ps : List Point) (a b : ℕ) (vs : List ℕ) (v : ℕ) → Chain after before a (b ∷ vs) → In v (b ∷ vs) → v < last_of b vs →
      In (corner_at (vertex_at ps (before v)) (vertex_at ps v) (vertex_at ps (after v))) (corners_from (vertex_at ps a) (vertex_at ps b) (vertices ps vs))
  in_corners ps a b [] v h (inl e) l = absurd (omega arith)
  in_corners ps a b [] v h (inr k) l = elim k [ ]
  in_corners ps a b (c ∷ vs) v h (inl e) l = grind arith
  in_corners ps a b (c ∷ vs) v h (inr k) l = inr (in_corners ps b c vs v h.3 k l)

-- one that no other goes before
pub least_is : (c : Corner) (cs : List Corner) → In c cs → AllByRecursion (λ d. is_before d c ≡ false) cs → least cs ≡ Some c
least_is c [] k h = elim k [ ]
least_is c (x ∷ xs) (inl e) h = grind (arith, least_holds)
least_is c (x ∷ xs) (inr k) h = grind (arith, one_corner, least_is c xs k h.1)
