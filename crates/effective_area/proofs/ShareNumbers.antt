-- What `parse` reads of a text, as the number that its digits write.
use Rattle.std.proofs.Common.{◌≡◌, ◌≢◌, ◌^◌, ◌<◌, ◌≤◌, ◌∙◌, ℕ, Bool, true, false, List, length, get_or, Option, Some, None, Result, Ok, Err, IfSome, MatchResult, if◌then◌else◌, refl, sym, ap, subst, arith, rules}
use Rattle.std.specs.Prelude.{nat_lt, ◌&&◌}
use Rattle.std.proofs.lemmas.Bool.{and_from, and_parts, lt-ltb, ltb-true}
use Rattle.std.proofs.lemmas.Str.Parse.{IsNumeralModel, numerals_by_fold, parse_plain}
use Rattle.std.specs.Str.{all_ascii_digits}
use Rattle.std.specs.Str.Parse.{ParsesUnsigned}
use Rattle.decimal_text.specs.Digits.{digits_value_after, digits_value}
use Rattle.effective_area.specs.ShareTexts.{number_of, share_limit}

-- the digits and their number are those of `parse`
own : IsNumeralModel (λ ds. all_ascii_digits ds ≡ true) digits_value
own = numerals_by_fold (λ ds. all_ascii_digits ds ≡ true) (search rules) digits_value_after (search rules)

module _ (t : List ℕ) where
  of_digits : all_ascii_digits t ≡ true → 0 < length t → number_of t ≡ Some (digits_value t)
  of_digits digits some =
      ap (λ (b : Bool). if b then Some (digits_value t) else None) (and_from (nat_lt 0 (length t)) (all_ascii_digits t) (lt-ltb 0 (length t) some) digits)

  -- the number of a text that isn't read lies beyond 64 bits, where it is one
  beyond : ((all_ascii_digits t ≡ true) × (0 < length t) × (digits_value t < 2 ^ 64) → ⊥) → (b : Bool) → (nat_lt 0 (length t) && all_ascii_digits t) ≡ b
      → IfSome (if b then Some (digits_value t) else None) (λ n. 2 ^ 64 ≤ n)
  beyond misses true is =
      let parts = and_parts (nat_lt 0 (length t)) (all_ascii_digits t) is in
      let large : digits_value t < 2 ^ 64 → ⊥ = λ h. misses (parts.1, ltb-true 0 (length t) parts.0, h) in
      omega arith
  beyond misses false is = tt

  -- what is read of a text that doesn't begin with a plus sign
  pub read : {E : Type 0} (r : Result ℕ E) → ParsesUnsigned 64 10 t r → get_or t 0 0 ≢ 43
      → MatchResult r (λ n. number_of t ≡ Some n) (λ _. IfSome (number_of t) (λ n. 2 ^ 64 ≤ n))
  read {E = E} (Ok n) h plain =
      let found = parse_plain own {E = E} 64 t (Ok n) h plain in
      of_digits found.0.0 found.0.1 ∙ ap Some (sym found.1)
  read {E = E} (Err e) h plain = beyond (parse_plain own {E = E} 64 t (Err e) h plain) (nat_lt 0 (length t) && all_ascii_digits t) refl

-- a number over a lower limit
pub over : (number : Option ℕ) → IfSome number (λ n. 2 ^ 64 ≤ n) → IfSome number (λ n. share_limit < n)
over None h = tt
over (Some n) h = omega arith

pub over_by : (number : Option ℕ) (n : ℕ) → number ≡ Some n → share_limit < n → IfSome number (λ n. share_limit < n)
over_by number n e h = let P : Option ℕ → Type 0 = λ o. IfSome o (λ n. share_limit < n) in subst P (sym e) h
