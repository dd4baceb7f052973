-- White space and words.
use Rattle.std.proofs.Common.{◌≡◌, ◌≢◌, ℕ, eqb, inl, inr, List, [], ◌∷◌, ◌++◌, Option, Some, None, MatchOption, Bor, refl, sym, ap, ◌∙◌, arith}
use Rattle.std.specs.Option.{option_copied}
use Rattle.std.proofs.lemmas.Bool.{eqb-true, eq-eqb}
use Rattle.std.proofs.lemmas.List.{append-nil}
use Rattle.std.proofs.lemmas.Option.{option_and_then_some}
use Rattle.owned_values.proofs.Tests.{chosen}
use Rattle.json_value.specs.declared.json.Json.{Json}
use Rattle.json_value.specs.Grammar.{is_space, IsSpace}
use Rattle.json_value.specs.Reading.{skip, after_word, word_at}
use Rattle.json_reading.proofs.Steps.{none_or_some}

pub skip-space : (w bs : List ℕ) → IsSpace w → skip (w ++ bs) ≡ skip bs
unfolding skip
skip-space [] bs h = refl
skip-space (b ∷ w) bs h = rw h.0 (skip-space w bs h.1)

pub skip_all : (u : List ℕ) → IsSpace u → skip u ≡ []
skip_all u h = unfold skip in rw (← append-nil u) (skip-space u [] h)

pub skip_takes : (bs : List ℕ) → (w : List ℕ) × IsSpace w × (bs ≡ w ++ skip bs)
unfolding skip
skip_takes [] = ([], tt, refl)
skip_takes (b ∷ bs) = elim (chosen (is_space b) (skip bs) (b ∷ bs) _ refl) [
  | inl h ↦ (let r = skip_takes bs in (b ∷ r.0, (h.0, r.1), (ap (λ xs. b ∷ xs) r.2 ∙ ap (λ xs. b ∷ (r.0 ++ xs)) h.1)))
  | inr h ↦ ([], tt, h.1)
]

pub after_word_takes : (word bs rest : List ℕ) → after_word word bs ≡ Some rest → bs ≡ word ++ rest
unfolding after_word
after_word_takes (c ∷ word) (b ∷ bs) rest e = grind (arith, after_word_takes word bs rest, chosen (eqb b c) _ _ _ e, eqb-true b c)
after_word_takes word bs rest e = cc

pub after_word_again : (word rest : List ℕ) → after_word word (word ++ rest) ≡ Some rest
unfolding after_word
after_word_again [] rest = refl
after_word_again (c ∷ word) rest = rw (eq-eqb c c refl) (after_word_again word rest)

-- stripping a prefix is reading a word
pub by_strip : (word bs : List ℕ) (r : Option (Bor (List ℕ))) → MatchOption r ((rest : List ℕ) → bs ≢ word ++ rest) (λ x. bs ≡ word ++ x.now) → option_copied r ≡ after_word word bs
by_strip word bs None h = elim (none_or_some (after_word word bs)) [
  | inl e ↦ sym e
  | inr e ↦ absurd (h e.0 (after_word_takes word bs e.0 e.1))
]
by_strip word bs (Some x) h = sym (ap (after_word word) h ∙ after_word_again word x.now)

pub word_takes : (word : List ℕ) (v : Json) (bs : List ℕ) (x : Json × List ℕ) → word_at word v bs ≡ Some x → (v ≡ x.0) × (bs ≡ word ++ x.1)
word_takes word v bs x e = unfold word_at in option_and_then_some _ _ _ e (λ rest f g. (cc, after_word_takes word bs x.1 (f ∙ cc)))
