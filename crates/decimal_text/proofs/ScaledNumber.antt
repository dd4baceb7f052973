-- What a number text scales to.
use Rattle.std.proofs.Common.{◌≡◌, ℕ, ◌<◌, ◌≤◌, Bool, List, Some, Ok, IfOk, subst, ap, arith, unsigned_abs}
use Rattle.std.proofs.Math.Nat.{one-le-pow}
use Rattle.std.proofs.lemmas.Bool.{cases_lt}
use Rattle.decimal_text.specs.declared.num_text.Scaled.{Scaled}
use Rattle.decimal_text.specs.Parts.{Parts, parts_of}
use Rattle.decimal_text.specs.Rounding.{signed, rounded_of}
use Rattle.decimal_text.specs.Scaling.{numerator, denominator, scaled_of, scaled_parts}
use Rattle.decimal_text.specs.Laws.{ScaledIsNearest}
use Rattle.decimal_text.proofs.Nearest.{rounded_of-nearest, rounded_of-within, rounded_of-past}
use Rattle.decimal_text.proofs.ReadsParts.{parts-read}

pub denominator-positive : (n : Parts) → 0 < denominator n
denominator-positive n = one-le-pow _ 10 (omega arith)

pub scaled_of-read : (places limit : ℕ) (t : List ℕ) (n : Parts) → parts_of t ≡ Some n
    → scaled_of places limit t ≡ rounded_of n.negative (numerator n places) (denominator n) limit
scaled_of-read places limit t n e = unfold scaled_of in ap (scaled_parts places limit) e

pub scaled_of-nearest : ScaledIsNearest
scaled_of-nearest places limit t n s = rw (scaled_of-read places limit t n (parts-read t n s))
    (rounded_of-nearest n.negative (numerator n places) (denominator n) limit (denominator-positive n))

-- a magnitude with a sign
pub unsigned_abs-signed : (negative : Bool) (m : ℕ) → unsigned_abs (signed negative m) ≡ m
unsigned_abs-signed negative m = grind arith

-- an answer is within the limit
pub rounded_of-limit : (negative : Bool) (num den limit : ℕ) → IfOk (rounded_of negative num den limit) (λ s. unsigned_abs s.value ≤ limit)
rounded_of-limit negative num den limit = grind (arith, rounded_of-past, rounded_of-within, unsigned_abs-signed, cases_lt)

-- what a number text scales to is within the limit
pub scaled_of-within : (places limit : ℕ) (t : List ℕ) (s : Scaled) → scaled_of places limit t ≡ Ok s → unsigned_abs s.value ≤ limit
unfolding scaled_of
scaled_of-within places limit t s e = subst (λ r. IfOk r (λ x. unsigned_abs x.value ≤ limit)) e (grind (arith, rounded_of-limit))
