-- A value that is read is spelled so, and its texts fit.
use Rattle.std.proofs.Common.{◌≡◌, ℕ, zero, suc, Bool, true, false, eqb, inl, inr, List, [], ◌∷◌, ◌++◌, Some, None, refl, sym, ap, subst, ◌∙◌, append_assoc}
use Rattle.std.specs.Prelude.{codes}
use Rattle.std.specs.List.{AllByRecursion}
use Rattle.std.proofs.lemmas.Bool.{eqb-true}
use Rattle.std.proofs.lemmas.Option.{option_and_then_some}
use Rattle.owned_values.proofs.Tests.{chosen}
use Rattle.json_value.specs.declared.json.Json.{Json}
use Rattle.json_value.specs.declared.json.Json.TheVariants as j
use Rattle.json_value.specs.Grammar.{SpellsChars, Spells, SpellsMember, spells_null, spells_true, spells_false, spells_text, spells_number, spells_empty_array, spells_array, spells_empty_object, spells_object, spells_member}
use Rattle.json_value.specs.WellFormed.{texts_of}
use Rattle.json_value.proofs.NumbersOf.{all_flat}
use Rattle.json_value.proofs.TextsOf.{texts-null, texts-bool, texts-number, texts-text, texts-array, texts-object}
use Rattle.json_value.specs.Reading.{Parse, ◌>>=◌, skip, word_at, string_at, number_at, items_at, name_at, member_at, value_with, value_at}
use Rattle.json_reading.proofs.Steps.{pair_is, IsSound}
use Rattle.json_reading.proofs.Words.{skip_takes, after_word_takes, word_takes}
use Rattle.json_reading.proofs.SpellsList.{to_elements, to_members, spelled_parts, regroup}
use Rattle.json_reading.proofs.ListsRead.{items_takes}
use Rattle.json_reading.proofs.NumbersRead.{number_takes}
use Rattle.json_reading.proofs.StringsRead.{string_takes}

joined_word : (b c : ℕ) (bs t xs rest : List ℕ) → b ≡ c → bs ≡ t ++ xs → xs ≡ rest → b ∷ bs ≡ c ∷ (t ++ rest)
joined_word b c bs t xs rest p q r = rw (p, q, r) refl

joined_member : (bs s n w m r u v t rest : List ℕ) → bs ≡ 34 ∷ (s ++ (34 ∷ n)) → n ≡ w ++ m → m ≡ 58 ∷ r → r ≡ u ++ v → v ≡ t ++ rest → bs ≡ (34 ∷ s ++ 34 ∷ (w ++ 58 ∷ (u ++ t))) ++ rest
joined_member bs s n w m r u v t rest a b c d e = rw (a, b, c, d, e) (sym (regroup s w u t rest))

module _ (fits : List ℕ → Bool) where
  abbrev Fit : List (List ℕ) → Type 0
  Fit = AllByRecursion (λ t. fits t ≡ true)

  -- these bytes spell it, and its texts and names fit
  abbrev SpellsFit : ℕ → List ℕ → Json → Type 0
  SpellsFit d t v = Spells d t v × Fit (texts_of v)

  abbrev MemberFit : ℕ → List ℕ → List ℕ × Json → Type 0
  MemberFit d t m = SpellsMember d t m × Fit (m.0 ∷ texts_of m.1)

  abbrev Found : ℕ → List ℕ → Json × List ℕ → Type 0
  Found d bs x = (t : List ℕ) × SpellsFit d t x.0 × (bs ≡ t ++ x.1)

  word_found : (d b c : ℕ) (word : List ℕ) (v : Json) → Spells d (c ∷ word) v → Fit (texts_of v) → b ≡ c → (bs : List ℕ) (x : Json × List ℕ) → word_at word v bs ≡ Some x → Found d (b ∷ bs) x
  word_found d b c word v s f same bs x e = let w = word_takes word v bs x e in (c ∷ word, subst (SpellsFit d (c ∷ word)) w.0 (s, f), joined_word b c bs word _ x.1 same w.1 refl)

  number_found : (d : ℕ) (bs : List ℕ) (x : Json × List ℕ) → (number_at bs >>= λ t. Some (j.Number t.0, t.1)) ≡ Some x → Found d bs x
  number_found d bs x e = option_and_then_some _ _ _ e (λ y f g.
      let r = number_takes bs y f in
      let p = pair_is (j.Number y.0) y.1 x g in
      (r.0, subst (SpellsFit d r.0) (ap j.Number r.1.1 ∙ p.0) (spells_number r.1.0, rw (texts-number r.0) tt), r.2 ∙ ap (λ z. r.0 ++ z) p.1))

  name_takes : (bs : List ℕ) (x : List ℕ × List ℕ) → name_at fits bs ≡ Some x → (s : List ℕ) × SpellsChars s x.0 × (bs ≡ 34 ∷ (s ++ (34 ∷ x.1))) × (fits x.0 ≡ true)
  name_takes bs x e = unfold name_at in option_and_then_some _ _ _ e (λ rest f g.
      let r = string_takes fits rest x g in
      (r.1.0, r.1.1, after_word_takes (34 ∷ []) bs rest f ∙ ap (λ z. 34 ∷ z) (r.2 ∙ rw (r.1.2, append_assoc) refl), r.1.3))

  member_takes : (d : ℕ) (value : Parse Json) → IsSound (SpellsFit d) value → IsSound (MemberFit d) (member_at fits value)
  member_takes d value sound bs x e = unfold member_at in
      option_and_then_some _ _ _ e (λ name f g. option_and_then_some _ _ _ g (λ rest k m. option_and_then_some _ _ _ m (λ v p q.
      let named = name_takes bs name f in
      let prefix = skip_takes name.1 in
      let colon = after_word_takes (58 ∷ []) (skip name.1) rest k in
      let following = skip_takes rest in
      let here = sound (skip rest) v p in
      let same = pair_is (name.0, v.0) v.1 x q in (
        34 ∷ named.0 ++ 34 ∷ (prefix.0 ++ 58 ∷ (following.0 ++ here.0)),
        subst (MemberFit d (34 ∷ named.0 ++ 34 ∷ (prefix.0 ++ 58 ∷ (following.0 ++ here.0)))) same.0
            (spells_member named.0 prefix.0 following.0 here.0 named.1 prefix.1 following.1 here.1.0, (named.3, here.1.1)),
        joined_member bs named.0 name.1 prefix.0 (skip name.1) rest following.0 (skip rest) here.0 x.1 named.2 prefix.2 colon following.2 (here.2 ∙ ap (λ z. here.0 ++ z) same.1),
      ))))

  -- what is after a bracket that opens
  abbrev ListSound : {A : Type 0} → ℕ → ℕ → (List A → Json) → Parse (List A) → Type 0
  ListSound {A} d open_ made items = (bs : List ℕ) (x : List A × List ℕ) → items bs ≡ Some x → (t : List ℕ) × SpellsFit d (open_ ∷ t) (made x.0) × (bs ≡ t ++ x.1)

  array_takes : (d : ℕ) (value : Parse Json) → IsSound (SpellsFit d) value → ListSound (suc d) 91 j.Array (items_at 93 value)
  array_takes d value sound bs x e = elim (items_takes Json (SpellsFit d) 93 value sound bs x e) [
    | inl h ↦ (h.0 ++ 93 ∷ [], subst (λ vs. SpellsFit (suc d) (91 ∷ h.0 ++ 93 ∷ []) (j.Array vs)) (sym h.2) (spells_empty_array h.0 h.1, rw (texts-array []) tt), h.3)
    | inr h ↦ (let p = spelled_parts (Spells d) (λ v. Fit (texts_of v)) h.1 in (h.0 ++ 93 ∷ [], (spells_array h.0 (to_elements p.0), rw (texts-array x.0) (all_flat (λ t. fits t ≡ true) texts_of x.0 p.1)), h.2))
  ]

  object_takes : (d : ℕ) (value : Parse Json) → IsSound (SpellsFit d) value → ListSound (suc d) 123 j.Object (items_at 125 (member_at fits value))
  object_takes d value sound bs x e = elim (items_takes (List ℕ × Json) (MemberFit d) 125 (member_at fits value) (member_takes d value sound) bs x e) [
    | inl h ↦ (h.0 ++ 125 ∷ [], subst (λ ms. SpellsFit (suc d) (123 ∷ h.0 ++ 125 ∷ []) (j.Object ms)) (sym h.2) (spells_empty_object h.0 h.1, rw (texts-object []) tt), h.3)
    | inr h ↦ (let p = spelled_parts (SpellsMember d) (λ m. Fit (m.0 ∷ texts_of m.1)) h.1 in (h.0 ++ 125 ∷ [], (spells_object h.0 (to_members p.0), rw (texts-object x.0) (all_flat (λ t. fits t ≡ true) (λ m. m.0 ∷ texts_of m.1) x.0 p.1)), h.2))
  ]

  text_found : (d b : ℕ) → b ≡ 34 → (bs : List ℕ) (x : Json × List ℕ) → (string_at fits bs >>= λ t. Some (j.Text t.0, t.1)) ≡ Some x → Found d (b ∷ bs) x
  text_found d b same bs x e = option_and_then_some _ _ _ e (λ y f g.
      let r = string_takes fits bs y f in
      let p = pair_is (j.Text y.0) y.1 x g in (
        34 ∷ r.1.0 ++ 34 ∷ [],
        subst (SpellsFit d (34 ∷ r.1.0 ++ 34 ∷ [])) p.0 (spells_text r.1.0 r.1.1, rw (texts-text y.0) (r.1.3, tt)),
        joined_word b 34 bs (r.1.0 ++ 34 ∷ []) y.1 x.1 same (r.2 ∙ ap (λ z. z ++ y.1) r.1.2) p.1,
      ))

  list_found : {A : Type 0} (d b open_ : ℕ) (made : List A → Json) (items : Parse (List A)) → ListSound d open_ made items → b ≡ open_ → (bs : List ℕ) (x : Json × List ℕ) → (items bs >>= λ xs. Some (made xs.0, xs.1)) ≡ Some x → Found d (b ∷ bs) x
  list_found d b open_ made items sound same bs x e = option_and_then_some _ _ _ e (λ xs f g.
      let r = sound bs xs f in
      let p = pair_is (made xs.0) xs.1 x g in
      (open_ ∷ r.0, subst (SpellsFit d (open_ ∷ r.0)) p.0 r.1, joined_word b open_ bs r.0 xs.1 x.1 same r.2 p.1))

  with_takes : (d : ℕ) (items : Parse (List Json)) (members : Parse (List (List ℕ × Json))) → ListSound d 91 j.Array items → ListSound d 123 j.Object members → IsSound (SpellsFit d) (value_with fits items members)
  unfolding value_with
  with_takes d items members a o [] x e = cc
  with_takes d items members a o (b ∷ bs) x e = elim (chosen (eqb b 110) _ _ _ e) [
    | inl h ↦ word_found d b 110 (codes "ull") j.Null spells_null (rw texts-null tt) (eqb-true b 110 h.0) bs x h.1
    | inr h ↦ elim (chosen (eqb b 116) _ _ _ h.1) [
      | inl k ↦ word_found d b 116 (codes "rue") (j.Bool true) spells_true (rw (texts-bool true) tt) (eqb-true b 116 k.0) bs x k.1
      | inr k ↦ elim (chosen (eqb b 102) _ _ _ k.1) [
        | inl l ↦ word_found d b 102 (codes "alse") (j.Bool false) spells_false (rw (texts-bool false) tt) (eqb-true b 102 l.0) bs x l.1
        | inr l ↦ elim (chosen (eqb b 34) _ _ _ l.1) [
          | inl m ↦ text_found d b (eqb-true b 34 m.0) bs x m.1
          | inr m ↦ elim (chosen (eqb b 91) _ _ _ m.1) [
            | inl n ↦ list_found d b 91 j.Array items a (eqb-true b 91 n.0) bs x n.1
            | inr n ↦ elim (chosen (eqb b 123) _ _ _ n.1) [
              | inl p ↦ list_found d b 123 j.Object members o (eqb-true b 123 p.0) bs x p.1
              | inr p ↦ number_found d (b ∷ bs) x p.1
            ]
          ]
        ]
      ]
    ]
  ]

  pub fit_takes : (d : ℕ) → IsSound (SpellsFit d) (value_at fits d)
  unfolding value_at
  fit_takes zero = with_takes zero (λ _. None) (λ _. None) (λ bs x e. cc) (λ bs x e. cc)
  fit_takes (suc d) = with_takes (suc d) (items_at 93 (value_at fits d)) (items_at 125 (member_at fits (value_at fits d))) (array_takes d (value_at fits d) (fit_takes d)) (object_takes d (value_at fits d) (fit_takes d))

  pub value_takes : (d : ℕ) → IsSound (Spells d) (value_at fits d)
  value_takes d bs x e = let r = fit_takes d bs x e in (r.0, r.1.0, r.2)
