-- What is read as a list, up to the byte that closes it, is spelled so.
use Rattle.std.proofs.Common.{◌≡◌, ℕ, zero, suc, ◌⊎◌, inl, inr, List, [], ◌∷◌, ◌++◌, length, Option, Some, None, refl, sym, ap, subst, ◌∙◌, append_assoc, arith}
use Rattle.std.proofs.lemmas.Bool.{eqb-true}
use Rattle.std.proofs.lemmas.Option.{option_and_then_some}
use Rattle.owned_values.proofs.Tests.{chosen}
use Rattle.json_value.specs.Grammar.{IsSpace}
use Rattle.json_value.specs.Reading.{Parse, skip, list_after, list_at, closes, items_unless, items_at}
use Rattle.json_reading.proofs.Steps.{pair_is, IsSound}
use Rattle.json_reading.proofs.Words.{skip_takes, after_word_takes}
use Rattle.json_reading.proofs.SpellsList.{SpellsList, list_last, list_more}

joined_last : (w t u bs xs cs rest : List ℕ) (close : ℕ) → bs ≡ w ++ xs → xs ≡ t ++ cs → cs ≡ u ++ (close ∷ rest) → bs ≡ (w ++ t ++ u) ++ (close ∷ rest)
joined_last w t u bs xs cs rest close p q r = p ∙ rw (q, r, append_assoc, append_assoc) refl

joined_more : (w t u ts bs xs cs ds rest : List ℕ) (close : ℕ) → bs ≡ w ++ xs → xs ≡ t ++ cs → cs ≡ u ++ (44 ∷ ds) → ds ≡ ts ++ (close ∷ rest)
    → bs ≡ (w ++ t ++ u ++ 44 ∷ ts) ++ (close ∷ rest)
joined_more w t u ts bs xs cs ds rest close p q r s = p ∙ rw (q, r, s, append_assoc, append_assoc, append_assoc) refl

module _ (A : Type 0) (R : List ℕ → A → Type 0) (close : ℕ) (item : Parse A) where
  abbrev TakesList : List ℕ → List A → List ℕ → Type 0
  TakesList bs xs rest = (t : List ℕ) × SpellsList R t xs × (bs ≡ t ++ (close ∷ rest))

  -- after an element: the end, or a comma and more
  abbrev After : A → List ℕ → List A → List ℕ → Type 0
  After x bs xs rest = ((xs ≡ x ∷ []) × (bs ≡ close ∷ rest)) ⊎ ((ys : List A) × (xs ≡ x ∷ ys) × (more : List ℕ) × (bs ≡ 44 ∷ more) × TakesList more ys rest)

  after_takes : (more : Parse (List A)) → ((bs : List ℕ) (x : List A × List ℕ) → more bs ≡ Some x → TakesList bs x.0 x.1)
      → (v : A) (bs : List ℕ) (x : List A × List ℕ) → list_after close more v bs ≡ Some x → After v bs x.0 x.1
  after_takes more h v bs x k = unfold list_after in grind (arith, chosen, option_and_then_some, eqb-true, pair_is)

  list_takes : IsSound R item → (n : ℕ) (bs : List ℕ) (x : List A × List ℕ) → list_at close item n bs ≡ Some x → TakesList bs x.0 x.1
  unfolding list_at
  list_takes sound zero bs x e = cc
  list_takes sound (suc n) bs x e = option_and_then_some _ _ _ e (λ y f g.
      let prefix = skip_takes bs in
      let here = sound (skip bs) y f in
      let following = skip_takes y.1 in
      elim (after_takes (list_at close item n) (list_takes sound n) y.0 (skip y.1) x g) [
        | inl h ↦ (
          prefix.0 ++ here.0 ++ following.0,
          subst (λ vs. SpellsList R (prefix.0 ++ here.0 ++ following.0) vs) (sym h.0) (list_last prefix.0 here.0 following.0 prefix.1 here.1 following.1),
          joined_last prefix.0 here.0 following.0 bs (skip bs) y.1 x.1 close prefix.2 here.2 (following.2 ∙ ap (λ z. following.0 ++ z) h.1),
        )
        | inr h ↦ (
          prefix.0 ++ here.0 ++ following.0 ++ 44 ∷ h.4.0,
          subst (λ vs. SpellsList R (prefix.0 ++ here.0 ++ following.0 ++ 44 ∷ h.4.0) vs) (sym h.1) (list_more prefix.0 here.0 following.0 h.4.0 prefix.1 here.1 following.1 h.4.1),
          joined_more prefix.0 here.0 following.0 h.4.0 bs (skip bs) y.1 h.2 x.1 close prefix.2 here.2 (following.2 ∙ ap (λ z. following.0 ++ z) h.3) h.4.2,
        )
      ])

  -- an empty list, or one of some elements
  abbrev pub TakesItems : List ℕ → List A → List ℕ → Type 0
  TakesItems bs xs rest =
      ((w : List ℕ) × IsSpace w × (xs ≡ []) × (bs ≡ (w ++ close ∷ []) ++ rest)) ⊎ ((t : List ℕ) × SpellsList R t xs × (bs ≡ (t ++ close ∷ []) ++ rest))

  unless_takes : IsSound R item → (bs : List ℕ) (o : Option (List ℕ)) → closes close bs ≡ o → (x : List A × List ℕ) → items_unless close item bs o ≡ Some x → TakesItems bs x.0 x.1
  unfolding items_unless closes
  unless_takes sound bs None h x e = let r = list_takes sound (length bs) bs x e in inr (r.0, r.1, r.2 ∙ rw append_assoc refl)
  unless_takes sound bs (Some rest) h x e =
      let prefix = skip_takes bs in
      let is_end = after_word_takes (close ∷ []) (skip bs) rest h in
      let p = pair_is [] rest x e in
      inl (prefix.0, prefix.1, sym p.0, prefix.2 ∙ rw (is_end, p.1, append_assoc) refl)

  pub items_takes : IsSound R item → (bs : List ℕ) (x : List A × List ℕ) → items_at close item bs ≡ Some x → TakesItems bs x.0 x.1
  items_takes sound bs x e = unfold items_at in unless_takes sound bs (closes close bs) refl x e
