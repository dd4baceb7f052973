-- A text that is read is spelled so.
use Rattle.std.proofs.Common.{◌≡◌, ℕ, Bool, inl, inr, List, [], ◌++◌, Option, Some, None, refl, ap, subst, ◌∙◌, append_assoc, arith}
use Rattle.std.proofs.lemmas.List.{append-nil}
use Rattle.std.proofs.lemmas.Option.{option_and_then_some}
use Rattle.json_value.specs.declared.json.Json.{Json}
use Rattle.json_value.specs.Grammar.{IsSpace, Spells, SpellsText, Reads, mark}
use Rattle.json_value.specs.Reading.{skip, after_word, ended, document, without, text_at}
use Rattle.json_reading.proofs.Words.{skip_takes, after_word_takes}
use Rattle.json_reading.proofs.ValuesRead.{value_takes}

ended_takes : (v w : Json) (bs : List ℕ) → ended v bs ≡ Some w → (v ≡ w) × (bs ≡ [])
ended_takes v w bs h = unfold ended in grind arith

joined : (w t u b xs ys : List ℕ) → b ≡ w ++ xs → xs ≡ t ++ ys → ys ≡ u → b ≡ w ++ t ++ u
joined w t u b xs ys p q r = p ∙ rw (q, r, append_assoc) refl

module _ (fits : List ℕ → Bool) where
  document_takes : (d : ℕ) (b : List ℕ) (v : Json) → document fits d b ≡ Some v → SpellsText d b v
  document_takes d b v e = unfold document in option_and_then_some _ _ _ e (λ x f g.
      let prefix = skip_takes b in
      let here = value_takes fits d (skip b) x f in
      let following = skip_takes x.1 in
      let done = ended_takes x.0 v (skip x.1) g in
      let all_space : x.1 ≡ following.0 = following.2 ∙ ap (λ z. following.0 ++ z) done.1 ∙ append-nil following.0 in
      let space : IsSpace following.0 = following.1 in (
        prefix.0,
        here.0,
        following.0,
        prefix.1,
        subst (λ z. Spells d here.0 z) done.0 here.1,
        space,
        joined prefix.0 here.0 following.0 b (skip b) x.1 prefix.2 here.2 all_space,
      ))

  text_by : (d : ℕ) (b : List ℕ) (v : Json) (o : Option (List ℕ)) → after_word mark b ≡ o → document fits d (without b o) ≡ Some v → Reads d b v
  text_by d b v None h e = inl (document_takes d b v e)
  text_by d b v (Some rest) h e = inr (rest, after_word_takes mark b rest h, document_takes d rest v e)

  pub text_takes : (d : ℕ) (b : List ℕ) (v : Json) → text_at fits d b ≡ Some v → Reads d b v
  text_takes d b v e = unfold text_at in text_by d b v (after_word mark b) refl e
