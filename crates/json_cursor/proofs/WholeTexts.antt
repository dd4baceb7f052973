-- Whole texts by the value at their front.
use Rattle.std.proofs.Common.{◌≡◌, inl, inr, ℕ, eqb, true, false, List, [], ◌∷◌, length, Option, Some, None, Err, refl, sym, ap, ◌∙◌}
use Rattle.std.specs.Prelude.{IsUtf8}
use Rattle.std.specs.Str.{is_utf8}
use Rattle.json_value.specs.declared.json.Json.{Json}
use Rattle.json_value.specs.Grammar.{mark, Reads}
use Rattle.json_value.specs.Reading.{◌>>=◌, skip, after_word, without, ended, document, text_at, value_at}
use Rattle.json_value.specs.Readers.{Counting}
use Rattle.json_reading.proofs.Steps.{none_or_some}
use Rattle.json_reading.proofs.TextsFound.{is_read, not_read}
use Rattle.json_reading.proofs.TextsRead.{text_takes}
use Rattle.json_reading.proofs.Texts.{document_by}
use Rattle.json_cursor.specs.declared.stop.Stop.TheVariants as stop
use Rattle.json_cursor.specs.Answers.{Stops}

ended_is : (w v : Json) (rest : List ℕ) → ended w rest ≡ Some v → w ≡ v
unfolding ended
ended_is w v [] h = cc
ended_is w v (b ∷ bs) h = absurd cc

in_steps : (prefix : Option (Json × List ℕ)) (v : Json) → (prefix >>= λ x. ended x.0 (skip x.1)) ≡ Some v → (rest : List ℕ) × (prefix ≡ Some (v, rest))
in_steps None v h = absurd cc
in_steps (Some x) v h = (x.1, ap (λ w. Some (w, x.1)) (ended_is x.0 v (skip x.1) h))

module _ (d : ℕ) (bytes text : List ℕ) (is : text ≡ without bytes (after_word mark bytes)) where
  text_is : text_at is_utf8 d bytes ≡ document is_utf8 d text
  unfolding text_at
  text_is = ap (document is_utf8 d) (sym is)

  pub no_value : value_at is_utf8 d (skip text) ≡ None → text_at is_utf8 d bytes ≡ None
  unfolding document
  no_value h = text_is ∙ rw h refl

  module _ (v : Json) (after rest : List ℕ) (found : value_at is_utf8 d (skip text) ≡ Some (v, after)) (following : rest ≡ skip after) where
    pub whole : true ≡ eqb (length rest) 0 → Reads d bytes v
    whole h = text_takes is_utf8 d bytes v (text_is ∙ document_by is_utf8 d text v after rest true found following h)

    pub trailing : false ≡ eqb (length rest) 0 → text_at is_utf8 d bytes ≡ None
    trailing h = text_is ∙ document_by is_utf8 d text v after rest false found following h

  found_in : (v : Json) → text_at is_utf8 d bytes ≡ Some v → (rest : List ℕ) × (value_at is_utf8 d (skip text) ≡ Some (v, rest))
  unfolding document
  found_in v h = in_steps (value_at is_utf8 d (skip text)) v (sym text_is ∙ h)

  -- what a text spells stands at its front
  pub spelled_stands : (v : Json) → IsUtf8 bytes → Reads d bytes v → (rest : List ℕ) × (value_at is_utf8 d (skip text) ≡ Some (v, rest))
  spelled_stands v utf8 reads =
      elim (none_or_some (text_at is_utf8 d bytes)) [
        | inl none ↦ absurd (not_read d bytes v utf8 none reads)
        | inr some ↦ found_in v (some.1 ∙ ap Some (is_read d bytes some.0 v utf8 some.1 reads))
      ]

  pub spelled_faults : {C E B : Type 0} (read : Json → Counting C E B) (old : C) (e : E) → Stops read (value_at is_utf8 d (skip text)) old (stop.Fault e) → (v : Json) → IsUtf8 bytes → Reads d bytes v → read v old ≡ Err e
  spelled_faults read old e h v utf8 reads = let s = spelled_stands v utf8 reads in h v s.0 s.1
