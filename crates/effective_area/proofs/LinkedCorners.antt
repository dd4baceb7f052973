-- Which indexes are linked, and which of their corners is the first of all.
use Rattle.std.proofs.Common.{◌≡◌, ◌≢◌, ℕ, suc, ◌<◌, ◌≤◌, Bool, true, false, not, if◌then◌else◌, eqb, List, [], ◌∷◌, length, Option, Some, None, refl, ap, sym, ◌∙◌, subst, arith, ◌⊎◌, inl, inr}
use Rattle.std.specs.List.{filter, AllByRecursion}
use Rattle.std.specs.Ordering.{is_lt, ordering_then, nat_cmp}
use Rattle.std.specs.declared.cmp.Ordering.TheVariants.{Less, Greater}
use Rattle.geometry.specs.Lists.{In}
use Rattle.geometry.specs.Points.{Point}
use Rattle.elimination_meaning.specs.Elimination.{Corner, corner_at, corners, least, lesser, is_before}
use Rattle.effective_area.specs.Vertices.{vertex_at, vertices}
use Rattle.std.specs.Cmp.{nat_cmp_is}
use Rattle.geometry.specs.Order.{point_cmp}
use Rattle.elimination_meaning.proofs.Steps.{Holds, least_holds}
use Rattle.effective_area.specs.Chains.{Chain, last_of}
use Rattle.owned_values.proofs.Elements.{all_weaker}
use Rattle.std.specs.Cmp.{IsStrictWeakOrder}
use Rattle.std.proofs.lemmas.List.MinMax.{ranks_by}
use Rattle.elimination_meaning.proofs.Order.{corner_total}
use Rattle.effective_area.proofs.ChainLaws.{same_or_not, keep_step, drop_step, kept_above, above_from, all_corners, in_corners}

-- membership is decided
pub in_or_not : (i : ℕ) (vs : List ℕ) → In i vs ⊎ (In i vs → ⊥)
in_or_not i [] = inr (λ k. k)
in_or_not i (v ∷ vs) = grind (arith, same_or_not, in_or_not i vs)

pub in_filter : (i j : ℕ) (vs : List ℕ) → In j vs → j ≢ i → In j (filter (λ v. not (eqb v i)) vs)
in_filter i j [] k n = k
in_filter i j (v ∷ vs) k n = grind (arith, same_or_not, keep_step, drop_step, in_filter i j vs)

pub last_filter : (i u : ℕ) (vs : List ℕ) → last_of u vs ≢ i → last_of u (filter (λ v. not (eqb v i)) vs) ≡ last_of u vs
last_filter i u [] n = refl
last_filter i u (v ∷ []) n = ap (last_of u) (keep_step i v [] n)
last_filter i u (v ∷ (w ∷ ws)) n = grind (arith, same_or_not, drop_step, keep_step, last_filter i u (w ∷ ws) n, last_filter i v (w ∷ ws) n)

module _ (after before : ℕ → ℕ) where
  -- the one that a chain goes on from is none past its last
  pub no_further : (u : ℕ) (vs : List ℕ) → Chain after before u vs → u ≤ last_of u vs
  no_further u [] h = omega arith
  no_further u (v ∷ vs) h = let k = no_further v vs h.3 in omega (arith, h.2, k)

  -- what follows one that isn't the last
  pub next_in : (u : ℕ) (vs : List ℕ) (i : ℕ) → Chain after before u vs → In i vs → i < last_of u vs → In (after i) vs × (i < after i) × (after i ≤ last_of u vs)
  next_in u [] i h k l = elim k [ ]
  next_in u (v ∷ []) i h (inl e) l = absurd (omega (arith, e))
  next_in u (v ∷ []) i h (inr k) l = elim k [ ]
  next_in u (v ∷ (w ∷ ws)) i h (inl e) l =
      let ea : after i ≡ w = ap after e ∙ h.3.0 in
      let last_at = no_further w ws h.3.3 in
      (inr (inl ea), omega (arith, e, ea, h.3.2), omega (arith, ea, last_at))
  next_in u (v ∷ (w ∷ ws)) i h (inr k) l = let n = next_in v (w ∷ ws) i h.3 k l in (inr n.0, n.1, n.2)

  -- one that is linked is removed once
  pub one_less : (u i : ℕ) (vs : List ℕ) → Chain after before u vs → In i vs → suc (length (filter (λ v. not (eqb v i)) vs)) ≡ length vs
  one_less u i [] h k = elim k [ ]
  one_less u i (v ∷ vs) h k = grind (arith, same_or_not, drop_step, kept_above, above_from, keep_step, one_less v i vs h.3)

  -- what goes before one that is linked
  pub prev_in : (u : ℕ) (vs : List ℕ) (i : ℕ) → Chain after before u vs → In i vs → (before i ≡ u) ⊎ In (before i) vs
  prev_in u [] i h k = elim k [ ]
  prev_in u (v ∷ vs) i h (inl e) = inl (ap before e ∙ h.1)
  prev_in u (v ∷ vs) i h (inr k) = elim (prev_in v vs i h.3 k) [ inl e ↦ inr (inl e) | inr m ↦ inr (inr m) ]

  -- those that are linked are none past the last
  pub in_last : (u : ℕ) (vs : List ℕ) (i : ℕ) → Chain after before u vs → In i vs → i ≤ last_of u vs
  in_last u (v ∷ vs) i h (inl e) = let m = no_further v vs h.3 in omega (arith, e, m)
  in_last u (v ∷ vs) i h (inr k) = in_last v vs i h.3 k
  in_last u [] i h k = elim k [ ]

  -- there and back
  pub prev_next : (u : ℕ) (vs : List ℕ) (i : ℕ) → Chain after before u vs → In i vs → after (before i) ≡ i
  prev_next u [] i h k = elim k [ ]
  prev_next u (v ∷ vs) i h (inl e) = ap after (ap before e ∙ h.1) ∙ h.0 ∙ sym e
  prev_next u (v ∷ vs) i h (inr k) = prev_next v vs i h.3 k

  pub next_prev : (u : ℕ) (vs : List ℕ) (i : ℕ) → Chain after before u vs → In i vs → i < last_of u vs → before (after i) ≡ i
  next_prev u [] i h k l = elim k [ ]
  next_prev u (v ∷ []) i h (inl e) l = absurd (omega (arith, e, l))
  next_prev u (v ∷ []) i h (inr k) l = elim k [ ]
  next_prev u (v ∷ (w ∷ ws)) i h (inl e) l = ap before (ap after e ∙ h.3.0) ∙ h.3.1 ∙ sym e
  next_prev u (v ∷ (w ∷ ws)) i h (inr k) l = next_prev v (w ∷ ws) i h.3 k l

  -- the corners are those at the indexes between the ends
  pub in_present : (ps : List Point) (vs : List ℕ) (v : ℕ) → Chain after before 0 vs → In v vs → v < last_of 0 vs →
      In (corner_at (vertex_at ps (before v)) (vertex_at ps v) (vertex_at ps (after v))) (corners (vertices ps (0 ∷ vs)))
  in_present ps [] v h k l = elim k [ ]
  in_present ps (w ∷ ws) v h k l = in_corners after before ps 0 w ws v h k l

  pub all_present : (P : Corner → Type 0) (ps : List Point) (vs : List ℕ) → Chain after before 0 vs →
      ((v : ℕ) → 0 < v → In v vs → v < last_of 0 vs → P (corner_at (vertex_at ps (before v)) (vertex_at ps v) (vertex_at ps (after v)))) →
      AllByRecursion P (corners (vertices ps (0 ∷ vs)))
  all_present P ps [] h f = tt
  all_present P ps (w ∷ ws) h f = all_corners after before P ps 0 w ws h f

pub in_length : (a : ℕ) (xs : List ℕ) → In a xs → 1 ≤ length xs
in_length a [] k = elim k [ ]
in_length a (x ∷ xs) k = omega arith

-- one with a greater area goes later
pub over_later : (c d : Corner) → d.area < c.area → is_before c d ≡ false
unfolding is_before
over_later c d h = ap (λ o. is_lt (ordering_then o (ordering_then (point_cmp c.point d.point) (nat_cmp c.index d.index)))) (sym (nat_cmp_is c.area d.area Greater h))

pub under_first : (c d : Corner) → c.area < d.area → is_before c d ≡ true
unfolding is_before
under_first c d h = ap (λ o. is_lt (ordering_then o (ordering_then (point_cmp c.point d.point) (nat_cmp c.index d.index)))) (sym (nat_cmp_is c.area d.area Less h))

-- ---- the least of corners

pub earlier : IsStrictWeakOrder is_before
earlier = unfold is_before in ranks_by corner_total (λ c. c)

abbrev pub NoneBefore : Corner → List Corner → Type 0
NoneBefore d cs = AllByRecursion (λ x. is_before x d ≡ false) cs

pub all_in : (P : Corner → Type 0) (cs : List Corner) (c : Corner) → AllByRecursion P cs → In c cs → P c
all_in P [] c h k = elim k [ ]
all_in P (x ∷ xs) c h (inl e) = subst P (sym e) h.0
all_in P (x ∷ xs) c h (inr k) = all_in P xs c h.1 k

pub no_least : (cs : List Corner) → least cs ≡ None → cs ≡ []
no_least [] e = refl
no_least (x ∷ xs) e = grind arith

not_self : (c : Corner) → is_before c c ≡ false
not_self c = on (is_before c c) refl
  where
    on : (b : Bool) → is_before c c ≡ b → is_before c c ≡ false
    on true e = earlier.one_way c c e
    on false e = e

least_first : (cs : List Corner) → Holds (λ d. NoneBefore d cs) (least cs)
least_first [] = tt
least_first (c ∷ cs) = on (least cs) (least_first cs) (no_least cs)
  where
    by_test : (d : Corner) → NoneBefore d cs → (b : Bool) → is_before d c ≡ b → NoneBefore (if b then d else c) (c ∷ cs)
    by_test d h true p = (earlier.one_way d c p, h)
    by_test d h false p = (not_self c, all_weaker (λ x. is_before x d ≡ false) (λ x. is_before x c ≡ false) (λ x k. earlier.chain x d c k p) cs h)

    on : (o : Option Corner) → Holds (λ d. NoneBefore d cs) o → (o ≡ None → cs ≡ []) → Holds (λ d. NoneBefore d (c ∷ cs)) (lesser (Some c) o)
    on None h e = (not_self c, subst (λ l. NoneBefore c l) (sym (e refl)) tt)
    on (Some d) h e = by_test d h (is_before d c) refl

-- what holds of the least of all, and so of all that it goes before
pub least_decides : (P Q : Corner → Type 0) (cs : List Corner) → AllByRecursion (λ d. NoneBefore d cs → P d) cs → ((d x : Corner) → P d → is_before x d ≡ false → Q x) → AllByRecursion Q cs
least_decides P Q cs h f = grind (arith, no_least, least_first, least_holds, all_weaker)
