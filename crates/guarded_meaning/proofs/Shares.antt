-- The greatest threshold at which a share stays.
use Rattle.std.proofs.Common.{◌≡◌, ℕ, ◌+◌, ◌*◌, ◌<◌, ◌≤◌, Bool, true, cond, List, [], ◌∷◌, length, Option, refl, ap, sym, ◌∙◌, subst, arith, ◌⊎◌, inl, inr}
use Rattle.guarded_meaning.proofs.Names.{le-leb, leb-true, cases_lt, sum_by-cons, filter, count_by, In, is_kept_at, reduced_arcs, ShareIsGreatest, ShareStays, known, count_kept, keeps_share, greatest, share, chosen, IsGreatestShare, interior_weights, interior_count}
use Rattle.std.proofs.lemmas.Nat.{mul-le}
use Rattle.guarded_meaning.proofs.Interiors.{counted_by_weight, weights_count}
use Rattle.guarded_meaning.proofs.Weights.{kept_at_zero}

-- ---- the greatest that passes a test

abbrev Passes : (ℕ → Bool) → List ℕ → ℕ → Type 0
Passes f ws t = (t ≡ 0) ⊎ (In t ws × (f t ≡ true))

passes_of : (f : ℕ → Bool) (ws : List ℕ) → Passes f ws (greatest (filter f ws))
passes_of f [] = inl refl
passes_of f (w ∷ ws) = grind (arith, passes_of f ws)

under_greatest : (f : ℕ → Bool) (ws : List ℕ) (w : ℕ) → In w ws → f w ≡ true → w ≤ greatest (filter f ws)
under_greatest f [] w m e = elim m [ ]
under_greatest f (v ∷ ws) w m e = grind (arith, under_greatest f ws w)

-- ---- at zero all stay

count_zero : (ws : List (Option ℕ)) → count_kept 0 ws ≡ length ws
count_zero [] = refl
count_zero (w ∷ ws) = sum_by-cons (λ v. cond (is_kept_at 0 v) 1 0) w ws ∙ ap (λ b. cond b 1 0 + count_by (is_kept_at 0) ws) (kept_at_zero w) ∙ (let h = count_zero ws in omega (arith, h))

zero_keeps : (p q : ℕ) (ws : List (Option ℕ)) → p ≤ q → p * length ws ≤ q * count_kept 0 ws
zero_keeps p q ws h = subst (λ n. p * length ws ≤ q * n) (sym (count_zero ws)) (mul-le p (length ws) q (length ws) h (omega arith))

-- ---- the share

module _ (p q : ℕ) (ws : List (Option ℕ)) (h : p ≤ q) where
  abbrev keeps : ℕ → Bool
  keeps = keeps_share p q ws

  abbrev best : ℕ
  best = greatest (filter keeps (0 ∷ known ws))

  zero_passes : keeps 0 ≡ true
  zero_passes = le-leb (p * length ws) (q * count_kept 0 ws) (zero_keeps p q ws h)

  best_is : best ≡ greatest (filter keeps (known ws))
  best_is = ap (λ b. greatest (cond b (0 ∷ filter keeps (known ws)) (filter keeps (known ws)))) zero_passes ∙ omega arith

  member : (n : ℕ) → Passes keeps (known ws) n → ((n ≡ 0) ⊎ In n (known ws)) × (p * length ws ≤ q * count_kept n ws)
  member n (inl e) = (inl e, subst (λ m. p * length ws ≤ q * count_kept m ws) (sym e) (zero_keeps p q ws h))
  member n (inr k) = (inr k.0, leb-true (p * length ws) (q * count_kept n ws) k.1)

  fewer : (w : ℕ) → In w (known ws) → best < w → (q * count_kept w ws < p * length ws) ⊎ (p * length ws ≤ q * count_kept w ws) → q * count_kept w ws < p * length ws
  fewer w m over (inl less) = less
  fewer w m over (inr more) =
      let k = under_greatest keeps (known ws) w m (le-leb (p * length ws) (q * count_kept w ws) more) in
      absurd (omega (arith, k, over, best_is))

  is_best : IsGreatestShare p q ws best
  is_best =
      let m = subst (λ n. ((n ≡ 0) ⊎ In n (known ws)) × (p * length ws ≤ q * count_kept n ws)) (sym best_is) (member (greatest (filter keeps (known ws))) (passes_of keeps (known ws))) in
      record { among = m.0; keeps = m.1; fewer_over = λ w k over. fewer w k over (cases_lt (q * count_kept w ws) (p * length ws)) }

pub share_is_greatest : ShareIsGreatest
unfolding share
share_is_greatest p q ws h = is_best p q ws h

pub share_stays : ShareStays
share_stays p q guard arcs h =
    let k = (share_is_greatest p q (interior_weights guard arcs) h).keeps in
    subst (λ n. p * n ≤ q * interior_count (reduced_arcs guard (chosen p q guard arcs) arcs)) (weights_count guard arcs)
    (subst (λ n. p * length (interior_weights guard arcs) ≤ q * n) (counted_by_weight guard (chosen p q guard arcs) arcs) k)
