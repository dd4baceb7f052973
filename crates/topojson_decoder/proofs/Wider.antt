-- A number within a limit is within a wider one.
use Rattle.std.proofs.Common.{◌≡◌, ℕ, ◌≤◌, Bool, List, Option, Some, None, Ok, sym, ◌∙◌, arith, ⊎_elim}
use Rattle.std.proofs.lemmas.Bool.{cases_lt}
use Rattle.decimal_text.specs.declared.num_text.Scaled.{Scaled}
use Rattle.decimal_text.specs.Parts.{Parts, parts_of}
use Rattle.decimal_text.specs.Rounding.{nearest, rounded_of}
use Rattle.decimal_text.specs.Scaling.{numerator, denominator, scaled_parts, scaled_of}
use Rattle.decimal_text.proofs.Nearest.{rounded_of-within, rounded_of-past}

rounded_wider : (negative : Bool) (num den low high : ℕ) (s : Scaled) → low ≤ high → rounded_of negative num den low ≡ Ok s → rounded_of negative num den high ≡ Ok s
rounded_wider negative num den low high s le h =
    ⊎_elim
    (λ past. let wrong = sym (rounded_of-past negative num den low past) ∙ h in absurd cc)
    (λ small. rounded_of-within negative num den high (omega (arith, small, le)) ∙ sym (rounded_of-within negative num den low small) ∙ h)
    (cases_lt low (nearest num den))

parts_wider : (places low high : ℕ) (o : Option Parts) (s : Scaled) → low ≤ high → scaled_parts places low o ≡ Ok s → scaled_parts places high o ≡ Ok s
parts_wider places low high None s le h = absurd cc
parts_wider places low high (Some n) s le h = rounded_wider n.negative (numerator n places) (denominator n) low high s le h

pub wider : (places low high : ℕ) (t : List ℕ) (s : Scaled) → low ≤ high → scaled_of places low t ≡ Ok s → scaled_of places high t ≡ Ok s
unfolding scaled_of
wider places low high t s le h = parts_wider places low high (parts_of t) s le h
