-- What is read as a string, after its first quotation mark, is spelled so.
use Rattle.std.proofs.Common.{◌≡◌, ℕ, zero, suc, ◌+◌, ◌*◌, Bool, true, eqb, inl, inr, List, [], ◌∷◌, ◌++◌, length, take, drop, Some, None, one-add, refl, sym, ap, subst, ◌∙◌, append_assoc, arith}
use Rattle.std.specs.Prelude.{codes, encode_utf8}
use Rattle.std.specs.List.{prefix_len}
use Rattle.std.proofs.lemmas.Str.{encode_ascii}
use Rattle.std.proofs.lemmas.Bool.{eqb-true}
use Rattle.std.proofs.lemmas.List.{append-nil}
use Rattle.std.proofs.lemmas.Option.{option_and_then_some}
use Rattle.owned_values.proofs.Tests.{chosen}
use Rattle.json_value.specs.Grammar.{is_plain, hex_value, SpellsUnit, unit_of, is_high, is_low, paired, SpellsChars, chars_end, chars_plain, chars_escape, chars_unit, chars_pair}
use Rattle.json_value.proofs.Letters.{letter_kind}
use Rattle.json_value.proofs.Runs.{plain_decides}
use Rattle.json_value.specs.Reading.{Parse, plain_prefix, after_plain, hex_at, unit_at, low_at, unicode_at, escape_at, chars_after, chars_at, if_text, string_at}
use Rattle.json_reading.proofs.Steps.{pair_is, IsSound}
use Rattle.json_reading.proofs.Words.{after_word_takes}

-- ---- plain bytes

pub plain-split : (bs : List ℕ) → bs ≡ plain_prefix bs ++ after_plain bs
unfolding plain_prefix after_plain
plain-split [] = refl
plain-split (b ∷ bs) = grind (arith, plain-split bs)

-- Plain bytes before a string's bytes stand for themselves.
plain_spelled : (bs s t : List ℕ) → SpellsChars s t → SpellsChars (plain_prefix bs ++ s) (plain_prefix bs ++ t)
unfolding plain_prefix
plain_spelled [] s t h = h
plain_spelled (b ∷ bs) s t h = grind (arith, plain_decides b, chars_plain, plain_spelled bs s t h)

-- what the code cuts off
pub plain_front : (bs : List ℕ) → take (prefix_len is_plain bs) bs ≡ plain_prefix bs
unfolding plain_prefix
plain_front [] = refl
plain_front (b ∷ bs) = elim (plain_decides b) [
  | inl p ↦ rw (p, one-add) (ap (λ z. b ∷ z) (plain_front bs))
  | inr p ↦ rw p refl
]

pub plain_back : (bs : List ℕ) → drop (prefix_len is_plain bs) bs ≡ after_plain bs
unfolding after_plain
plain_back [] = refl
plain_back (b ∷ bs) = elim (plain_decides b) [
  | inl p ↦ rw (p, one-add) (plain_back bs)
  | inr p ↦ rw p refl
]

-- ---- escapes

hex_takes : (bs : List ℕ) (x : ℕ × List ℕ) → hex_at bs ≡ Some x → (b : ℕ) × (hex_value b ≡ Some x.0) × (bs ≡ b ∷ x.1)
hex_takes bs x h = unfold hex_at in grind (arith, option_and_then_some, pair_is)

-- An escape stands for the character, whatever follows.
abbrev Escaped : List ℕ → ℕ → Type 0
Escaped u c = (s t : List ℕ) → SpellsChars s t → SpellsChars (u ++ s) (encode_utf8 c ++ t)

four_digits : (bs as_ cs ds es : List ℕ) (a b c d : ℕ) → bs ≡ a ∷ as_ → as_ ≡ b ∷ cs → cs ≡ c ∷ ds → ds ≡ d ∷ es → bs ≡ a ∷ b ∷ c ∷ d ∷ es
four_digits bs as_ cs ds es a b c d p q r s = rw (p, q, r, s) refl

abbrev TakesUnit : List ℕ → ℕ → List ℕ → Type 0
TakesUnit bs n rest = (u : List ℕ) × SpellsUnit (92 ∷ 117 ∷ u) n × (bs ≡ u ++ rest)

unit_takes : (bs : List ℕ) (x : ℕ × List ℕ) → unit_at bs ≡ Some x → TakesUnit bs x.0 x.1
unit_takes bs x e = unfold unit_at in
    option_and_then_some _ _ _ e (λ w f1 g1. option_and_then_some _ _ _ g1 (λ y f2 g2. option_and_then_some _ _ _ g2 (λ z f3 g3. option_and_then_some _ _ _ g3 (λ v f4 g4.
    let a = hex_takes bs w f1 in
    let b = hex_takes w.1 y f2 in
    let c = hex_takes y.1 z f3 in
    let d = hex_takes z.1 v f4 in
    let p = pair_is (((w.0 * 16 + y.0) * 16 + z.0) * 16 + v.0) v.1 x g4 in (
      a.0 ∷ b.0 ∷ c.0 ∷ d.0 ∷ [],
      subst (λ n. SpellsUnit (92 ∷ 117 ∷ a.0 ∷ b.0 ∷ c.0 ∷ d.0 ∷ []) n) p.0 (unit_of a.0 b.0 c.0 d.0 a.1 b.1 c.1 d.1),
      four_digits bs w.1 y.1 z.1 x.1 a.0 b.0 c.0 d.0 a.2 b.2 c.2 (d.2 ∙ ap (λ r. d.0 ∷ r) p.1),
    )))))

abbrev TakesEscape : List ℕ → ℕ → List ℕ → Type 0
TakesEscape bs c rest = (u : List ℕ) × Escaped u c × (bs ≡ u ++ rest)

joined_pair : (bs u xs rest v ys : List ℕ) → bs ≡ u ++ xs → xs ≡ 92 ∷ 117 ∷ rest → rest ≡ v ++ ys → 92 ∷ 117 ∷ bs ≡ ((92 ∷ 117 ∷ u) ++ (92 ∷ 117 ∷ v)) ++ ys
joined_pair bs u xs rest v ys p q r = rw (p, q, r) (ap (λ z. 92 ∷ 117 ∷ z) (sym (append_assoc u (92 ∷ 117 ∷ v) ys)))

low_found : (high : ℕ) (bs u xs rest : List ℕ) (low x : ℕ × List ℕ) → is_high high ≡ true → SpellsUnit (92 ∷ 117 ∷ u) high → bs ≡ u ++ xs → xs ≡ 92 ∷ 117 ∷ rest
    → unit_at rest ≡ Some low → is_low low.0 ≡ true → Some (paired high low.0, low.1) ≡ Some x → TakesEscape (92 ∷ 117 ∷ bs) x.0 x.1
low_found high bs u xs rest low x h su prefix word k l m =
    let v = unit_takes rest low k in
    let p = pair_is (paired high low.0) low.1 x m in (
      (92 ∷ 117 ∷ u) ++ (92 ∷ 117 ∷ v.0),
      subst (λ c. Escaped ((92 ∷ 117 ∷ u) ++ (92 ∷ 117 ∷ v.0)) c) p.0 (λ s t more. rw (append_assoc (92 ∷ 117 ∷ u) (92 ∷ 117 ∷ v.0) s) (chars_pair (92 ∷ 117 ∷ u) (92 ∷ 117 ∷ v.0) high low.0 s t su v.1 h l more)),
      joined_pair bs u xs rest v.0 x.1 prefix word (v.2 ∙ ap (λ z. v.0 ++ z) p.1),
    )

low_takes : (high : ℕ) (bs u xs : List ℕ) (x : ℕ × List ℕ) → is_high high ≡ true → SpellsUnit (92 ∷ 117 ∷ u) high → bs ≡ u ++ xs → low_at high xs ≡ Some x → TakesEscape (92 ∷ 117 ∷ bs) x.0 x.1
low_takes high bs u xs x h su prefix e = unfold low_at in option_and_then_some _ _ _ e (λ rest f g. option_and_then_some _ _ _ g (λ low k m.
    let low_is : ℕ × List ℕ = low in
    elim (chosen (is_low low_is.0) (Some (paired high low_is.0, low_is.1)) None (Some x) m) [
      | inl l ↦ low_found high bs u xs rest low x h su prefix (after_word_takes (codes "\\u") xs rest f) k l.0 l.1
      | inr l ↦ (let wrong = l.1 in cc)
    ]))

unicode_takes : (bs : List ℕ) (x : ℕ × List ℕ) → unicode_at bs ≡ Some x → TakesEscape (92 ∷ 117 ∷ bs) x.0 x.1
unicode_takes bs x e = unfold unicode_at in option_and_then_some _ _ _ e (λ n f g.
    let u = unit_takes bs n f in
    elim (chosen (is_high n.0) (low_at n.0 n.1) _ _ g) [
      | inl h ↦ low_takes n.0 bs u.0 n.1 x h.0 u.1 u.2 h.1
      | inr h ↦ elim (chosen (is_low n.0) None (Some n) _ h.1) [
        | inl l ↦ (let wrong = l.1 in cc)
        | inr l ↦ (let same : n.0 ≡ x.0 = (let k = l.1 in cc) in let rest : n.1 ≡ x.1 = (let k = l.1 in cc) in (
          92 ∷ 117 ∷ u.0,
          subst (λ c. Escaped (92 ∷ 117 ∷ u.0) c) same (λ s t more. chars_unit (92 ∷ 117 ∷ u.0) n.0 s t u.1 h.0 l.0 more),
          ap (λ z. 92 ∷ 117 ∷ z) (u.2 ∙ ap (λ z. u.0 ++ z) rest),
        ))
      ]
    ])

escape_takes : (bs : List ℕ) (x : ℕ × List ℕ) → escape_at bs ≡ Some x → TakesEscape (92 ∷ bs) x.0 x.1
unfolding escape_at
escape_takes [] x e = cc
escape_takes (b ∷ bs) x e = elim (chosen (eqb b 117) (unicode_at bs) _ _ e) [
  | inl h ↦ rw (eqb-true b 117 h.0) (unicode_takes bs x h.1)
  | inr h ↦ option_and_then_some _ _ _ h.1 (λ c f g.
      let p = pair_is c bs x g in
      (92 ∷ b ∷ [], (λ s t more. rw (encode_ascii x.0 (letter_kind b x.0 (f ∙ ap Some p.0)).ascii) (chars_escape b x.0 (f ∙ ap Some p.0) more)), ap (λ z. 92 ∷ b ∷ z) p.1))
]

-- ---- strings

abbrev TakesChars : List ℕ → List ℕ → List ℕ → Type 0
TakesChars bs t rest = (s : List ℕ) × SpellsChars s t × (bs ≡ s ++ (34 ∷ rest))

joined_end : (bs run rest xs : List ℕ) → bs ≡ run ++ rest → rest ≡ 34 ∷ xs → bs ≡ run ++ (34 ∷ xs)
joined_end bs run rest xs p q = rw (p, q) refl

joined_more : (bs run following u ys s rest : List ℕ) → bs ≡ run ++ following → following ≡ u ++ ys → ys ≡ s ++ (34 ∷ rest) → bs ≡ (run ++ (u ++ s)) ++ (34 ∷ rest)
joined_more bs run following u ys s rest p q r = p ∙ rw (q, r, append_assoc, append_assoc) refl

-- after plain bytes
after_takes : (more : Parse (List ℕ)) → ((bs : List ℕ) (x : List ℕ × List ℕ) → more bs ≡ Some x → TakesChars bs x.0 x.1)
    → (bs following : List ℕ) (x : List ℕ × List ℕ) → bs ≡ plain_prefix bs ++ following → chars_after more (plain_prefix bs) following ≡ Some x → TakesChars bs x.0 x.1
unfolding chars_after
after_takes more sound bs [] x split e = cc
after_takes more sound bs (b ∷ following) x split e = elim (chosen (eqb b 34) _ _ _ e) [
  | inl h ↦ (let p = pair_is (plain_prefix bs) following x h.1 in (
    plain_prefix bs,
    subst (λ z. SpellsChars (plain_prefix bs) z) p.0 (subst (λ z. SpellsChars z z) (append-nil (plain_prefix bs)) (plain_spelled bs [] [] chars_end)),
    joined_end bs (plain_prefix bs) (b ∷ following) x.1 split (rw (eqb-true b 34 h.0, p.1) refl),
  ))
  | inr h ↦ elim (chosen (eqb b 92) _ _ _ h.1) [
    | inl k ↦ option_and_then_some _ _ _ k.1 (λ c f g. option_and_then_some _ _ _ g (λ t l m.
        let u = escape_takes following c f in
        let r = sound c.1 t l in
        let p = pair_is (plain_prefix bs ++ (encode_utf8 c.0 ++ t.0)) t.1 x m in (
          plain_prefix bs ++ (u.0 ++ r.0),
          subst (λ z. SpellsChars (plain_prefix bs ++ (u.0 ++ r.0)) z) p.0 (plain_spelled bs (u.0 ++ r.0) (encode_utf8 c.0 ++ t.0) (u.1 r.0 t.0 r.1)),
          joined_more bs (plain_prefix bs) (b ∷ following) u.0 c.1 r.0 x.1 split (ap (λ z. z ∷ following) (eqb-true b 92 k.0) ∙ u.2) (r.2 ∙ ap (λ z. r.0 ++ (34 ∷ z)) p.1),
        )))
    | inr k ↦ (let wrong = k.1 in cc)
  ]
]

chars_takes : (n : ℕ) (bs : List ℕ) (x : List ℕ × List ℕ) → chars_at n bs ≡ Some x → TakesChars bs x.0 x.1
unfolding chars_at
chars_takes zero bs x e = cc
chars_takes (suc n) bs x e = after_takes (chars_at n) (chars_takes n) bs (after_plain bs) x (plain-split bs) e

-- after the first quotation mark: characters and a quotation mark, and the text fits
abbrev pub TakesString : (List ℕ → Bool) → List ℕ → List ℕ → Type 0
TakesString fits b t = (s : List ℕ) × SpellsChars s t × (b ≡ s ++ 34 ∷ []) × (fits t ≡ true)

module _ (fits : List ℕ → Bool) where
  text_takes : (t bs : List ℕ) (x : List ℕ × List ℕ) → if_text fits t bs ≡ Some x → (t ≡ x.0) × (bs ≡ x.1) × (fits x.0 ≡ true)
  text_takes t bs x e = unfold if_text in grind (arith, chosen (fits t) (Some (t, bs)) None _ e, pair_is t bs x)

  pub string_takes : IsSound (TakesString fits) (string_at fits)
  string_takes bs x e = unfold string_at in option_and_then_some _ _ _ e (λ y f g.
      let p = text_takes y.0 y.1 x g in
      let r = chars_takes (length bs) bs y f in
      (r.0 ++ 34 ∷ [], (r.0, subst (λ t. SpellsChars r.0 t) p.0 r.1, refl, p.2), r.2 ∙ rw append_assoc (ap (λ z. r.0 ++ (34 ∷ z)) p.1)))
