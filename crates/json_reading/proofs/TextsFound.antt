-- A text is read that spells a value, and a text spells one value at most.
use Rattle.std.proofs.Common.{◌≡◌, ℕ, ◌+◌, ◌<◌, Bool, true, inl, inr, List, [], ◌∷◌, ◌++◌, Some, None, refl, subst, ◌∙◌, append_assoc, arith}
use Rattle.std.specs.Prelude.{IsUtf8}
use Rattle.std.specs.Str.{is_utf8}
use Rattle.std.proofs.lemmas.Str.{is_utf8-from_IsUtf8, IsUtf8-past_char}
use Rattle.std.proofs.Math.Utf8.{encode}
use Rattle.std.proofs.lemmas.Bool.Decides.{eqb_tells}
use Rattle.json_value.specs.declared.json.Json.{Json}
use Rattle.json_value.specs.Grammar.{IsSpace, SpellsChars, Spells, spells_number, SpellsText, Reads, mark}
use Rattle.json_value.proofs.Nesting.{reads_no_deeper, reads_deeper}
use Rattle.json_value.specs.Reading.{skip, after_word, ended, document, text_at}
use Rattle.json_reading.proofs.Words.{skip-space, skip_all, after_word_again}
use Rattle.json_reading.proofs.Ending.{Ends-only}
use Rattle.json_reading.proofs.NumbersFound.{number_no_word}
use Rattle.json_reading.proofs.ValuesFound.{skip_value, found}
use Rattle.json_value.proofs.Spelled.{after_space, before_space}
use Rattle.json_value.proofs.Utf8.{ascii_split, text_utf8}

value_no_mark : {d : ℕ} {t : List ℕ} {v : Json} → Spells d t v → (rest : List ℕ) → after_word mark (t ++ rest) ≡ None
unfolding after_word
value_no_mark (spells_number n) rest = number_no_word n 239 (187 ∷ 191 ∷ []) rest refl
value_no_mark h rest = refl

no_mark : (w : List ℕ) {d : ℕ} {t : List ℕ} {v : Json} → IsSpace w → Spells d t v → (rest : List ℕ) → after_word mark (w ++ (t ++ rest)) ≡ None
unfolding after_word
no_mark [] h s rest = value_no_mark s rest
no_mark (b ∷ w) h s rest = grind (arith, eqb_tells)

module _ (fits : List ℕ → Bool) (Fit : List ℕ → Type 0) (text : (s t : List ℕ) → SpellsChars s t → Fit s → fits t ≡ true) (split : (p r : List ℕ) (x : ℕ) → x < 128 → Fit (p ++ (x ∷ r)) → Fit p × Fit r)
    (unmark : (rest : List ℕ) → Fit (mark ++ rest) → Fit rest) where
  document_again : (d : ℕ) (b : List ℕ) (v : Json) → Fit b → SpellsText d b v → document fits d b ≡ Some v
  document_again d b v f r = unfold document ended in
      let t = r.1 in let u = r.2 in
      let here : Fit t = after_space Fit split r.0 t r.3 (before_space Fit split (r.0 ++ t) u r.5 (subst Fit r.6 f)) in
      let prefix : skip b ≡ t ++ u = rw (r.6, append_assoc) (skip-space r.0 (t ++ u) r.3 ∙ skip_value r.4 u) in
      rw (prefix, found fits Fit text split r.4 here u (Ends-only u r.5), skip_all u r.5) refl

  text_again : (d : ℕ) (b : List ℕ) (v : Json) → Fit b → Reads d b v → text_at fits d b ≡ Some v
  unfolding text_at
  text_again d b v f (inl r) =
      let bare : after_word mark b ≡ None = rw (r.6, append_assoc) (no_mark r.0 r.3 r.4 r.2) in
      rw bare (document_again d b v f r)
  text_again d b v f (inr r) = rw (r.1, after_word_again mark r.0) (document_again d r.0 v (unmark r.0 (subst Fit r.1 f)) r.2)

-- ---- UTF-8 texts

read_again : (d : ℕ) (b : List ℕ) (v : Json) → IsUtf8 b → Reads d b v → text_at is_utf8 d b ≡ Some v
unfolding encode
read_again = text_again is_utf8 (λ b. IsUtf8 b) (λ s t h f. is_utf8-from_IsUtf8 t (text_utf8 s t h f)) ascii_split (λ rest h. IsUtf8-past_char (mark ++ rest) rest 0xFEFF h refl)

pub is_read : (d : ℕ) (b : List ℕ) (v w : Json) → IsUtf8 b → text_at is_utf8 d b ≡ Some v → Reads d b w → v ≡ w
is_read d b v w utf8 e r = let f = read_again d b w utf8 r in cc

pub not_read : (d : ℕ) (b : List ℕ) (v : Json) → IsUtf8 b → text_at is_utf8 d b ≡ None → Reads d b v → ⊥
not_read d b v utf8 e r = let f = read_again d b v utf8 r in cc

-- ---- one value at most

any_again : (d : ℕ) (b : List ℕ) (v : Json) → Reads d b v → text_at (λ t. true) d b ≡ Some v
any_again d b v r = text_again (λ t. true) (λ b. Unit {0}) (λ s t h f. refl) (λ p r x h f. (tt, tt)) (λ rest f. tt) d b v tt r

pub one_value : (d e : ℕ) (b : List ℕ) (v w : Json) → Reads d b v → Reads e b w → v ≡ w
one_value d e b v w r s =
    let p = any_again (d + e) b v (reads_deeper d b v r (d + e) (omega (arith, reads_no_deeper d b v r))) in
    let q = any_again (d + e) b w (reads_deeper e b w s (d + e) (omega (arith, reads_no_deeper e b w s))) in
    cc
