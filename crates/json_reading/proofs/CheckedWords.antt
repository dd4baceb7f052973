-- Words, as the loop reads them.
use Rattle.std.proofs.Common.{◌≡◌, ℕ, ◌+◌, ◌<◌, ◌≤◌, Bool, true, false, cond, eqb, List, [], ◌∷◌, length, get_or, drop, Option, Some, None, refl, sym, ◌∙◌}
use Rattle.std.proofs.lemmas.List.{at_drop_more, at_drop_all}
use Rattle.json_value.specs.Reading.{◌>>=◌, after_word}
use Rattle.json_reading.specs.declared.fault.Fault.{Fault}
use Rattle.json_reading.specs.Gives.{Fails}
use Rattle.json_reading.proofs.Passed.{first_fails}

tested : (test : Bool) (cs bs : List ℕ) → cond test (after_word cs bs) None ≡ (cond test (Some bs) None >>= after_word cs)
tested true cs bs = refl
tested false cs bs = refl

by_first : (c : ℕ) (cs bs : List ℕ) → after_word (c ∷ cs) bs ≡ (after_word (c ∷ []) bs >>= after_word cs)
unfolding after_word
by_first c cs [] = refl
by_first c cs (b ∷ bs) = tested (eqb b c) cs bs

module _ (word : List ℕ) (i : ℕ) (rest : List ℕ) (total : Option (List ℕ)) (so_far : after_word (drop i word) rest ≡ total) where
  pub ends : length word ≤ i → total ≡ Some rest
  unfolding after_word
  ends le = sym so_far ∙ at_drop_all (λ cs. after_word cs rest) word i le

  module _ (lt : i < length word) where
    goes_by : total ≡ (after_word (get_or word i 0 ∷ []) rest >>= after_word (drop (i + 1) word))
    goes_by = sym so_far ∙ at_drop_more (λ cs. after_word cs rest) word i 0 lt ∙ by_first (get_or word i 0) (drop (i + 1) word) rest

    pub fails : (e : Fault) → Fails e (after_word (get_or word i 0 ∷ []) rest) → Fails e total
    fails e h = rw goes_by (first_fails (after_word (get_or word i 0 ∷ []) rest) _ e h)

    pub goes_on : (more : List ℕ) → after_word (get_or word i 0 ∷ []) rest ≡ Some more → after_word (drop (i + 1) word) more ≡ total
    goes_on more h = sym (goes_by ∙ rw h refl)
