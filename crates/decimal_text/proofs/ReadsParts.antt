-- A text that spells a number is read as its parts.
use Rattle.std.proofs.Common.{◌≡◌, ℕ, ◌<◌, ◌==◌, ◌++◌, Bool, true, false, List, [], ◌∷◌, length, Option, Some, None, refl, ap, ◌∙◌, arith, if◌then◌else◌}
use Rattle.std.specs.Prelude.{option_and_then}
use Rattle.std.proofs.lemmas.Bool.Decides.{nat_tests}
use Rattle.std.proofs.lemmas.List.{append-nil}
use Rattle.std.proofs.lemmas.Bool.{ne_eqb}
use Rattle.decimal_text.specs.Grammar.{is_digit, AllDigits, IsWhole}
use Rattle.decimal_text.specs.Digits.{leading_digits, after_digits}
use Rattle.decimal_text.specs.Parts.{Parts, parts_of, unsigned_of, exponent_of, signed_digits_of, all_digits_of, fraction_of, is_whole, fraction_text, sign_text, SpellsSign, spells_no_sign, spells_plus, spells_minus, SpellsExponent, SpellsNumber}
use Rattle.decimal_text.proofs.DigitRuns.{digit_range, StopsDigits, leading_digits-run, after_digits-run}

pick_all : (f a ds : List ℕ) → f ≡ ds → a ≡ [] → 0 < length ds
    → if◌then◌else◌ {A = Option (List ℕ)} (length f == 0) None (if length a == 0 then Some f else None) ≡ Some ds
pick_all f a ds e1 e2 some = rw (e1, e2) (rw (ne_eqb (length ds) 0 (λ e. omega arith)) refl)

all_digits-read : (b : ℕ) (bs : List ℕ) → is_digit b ≡ true → AllDigits bs → all_digits_of (b ∷ bs) ≡ Some (b ∷ bs)
all_digits-read b bs hb h = grind (arith, pick_all, append-nil (b ∷ bs), leading_digits-run (b ∷ bs) [] (hb, h) tt, after_digits-run (b ∷ bs) [] (hb, h) tt)

signed_digits-read : (s : List ℕ) (negative : Bool) (b : ℕ) (bs : List ℕ) → SpellsSign s negative → is_digit b ≡ true → AllDigits bs
    → signed_digits_of (s ++ b ∷ bs) ≡ Some (negative, b ∷ bs)
signed_digits-read s negative b bs spells_no_sign hb h = grind (arith, digit_range, ne_eqb, all_digits-read)
signed_digits-read s negative b bs spells_plus hb h = ap (option_and_then (λ ds. Some (false, ds))) (all_digits-read b bs hb h)
signed_digits-read s negative b bs spells_minus hb h = ap (option_and_then (λ ds. Some (true, ds))) (all_digits-read b bs hb h)

exponent-read : (t : List ℕ) (negative : Bool) (ds : List ℕ) → SpellsExponent t negative ds → exponent_of t ≡ Some (negative, ds)
exponent-read t negative ds h3 = grind (arith, signed_digits-read)

-- what follows a fraction is neither a digit nor a point
pub IsAfter : List ℕ → Type 0
IsAfter [] = Unit {0}
IsAfter (c ∷ cs) = (is_digit c ≡ false) × ((c == 46) ≡ false)

exponent-after : (t : List ℕ) (negative : Bool) (ds : List ℕ) → SpellsExponent t negative ds → IsAfter t
exponent-after t negative ds h = unfold IsAfter in grind (arith, nat_tests)

after-stops : (t : List ℕ) → IsAfter t → StopsDigits t
after-stops t h = unfold IsAfter in grind arith

fraction-stops : (f rest : List ℕ) → IsAfter rest → StopsDigits (fraction_text f ++ rest)
fraction-stops f rest h = grind (arith, after-stops)

pick_some : (f a ds rest : List ℕ) → f ≡ ds → a ≡ rest → 0 < length ds
    → if◌then◌else◌ {A = Option (List ℕ × List ℕ)} (length f == 0) None (Some (f, a)) ≡ Some (ds, rest)
pick_some f a ds rest e1 e2 some = rw (e1, e2) (rw (ne_eqb (length ds) 0 (λ e. omega arith)) refl)

fraction-read : (f rest : List ℕ) → AllDigits f → IsAfter rest → fraction_of (fraction_text f ++ rest) ≡ Some (f, rest)
unfolding IsAfter
fraction-read [] [] h after = refl
fraction-read [] (c ∷ cs) h after = rw after.1 refl
fraction-read (x ∷ xs) rest h after =
    let ds : List ℕ = x ∷ xs in
    pick_some (leading_digits (ds ++ rest)) (after_digits (ds ++ rest)) ds rest
    (leading_digits-run ds rest h (after-stops rest after)) (after_digits-run ds rest h (after-stops rest after)) (omega arith)

-- what the grammar says of the digits before the point
pub record WholeFacts (w : List ℕ) : Type 0 where
  pub test : is_whole w ≡ true
  pub digits : AllDigits w
  pub some : 0 < length w

pub whole-facts : (w : List ℕ) → IsWhole w → WholeFacts w
whole-facts w h = grind arith

unsigned-read : (negative exponent_negative : Bool) (w f e ds : List ℕ) → IsWhole w → AllDigits f → SpellsExponent e exponent_negative ds
    → unsigned_of negative (w ++ (fraction_text f ++ e))
    ≡ Some (record { negative = negative; whole = w; fraction = f; exponent_negative = exponent_negative; exponent = ds })
unsigned-read negative exponent_negative w f e ds hw hf he =
    let facts = whole-facts w hw in
    let after = exponent-after e exponent_negative ds he in
    let rest : List ℕ = fraction_text f ++ e in
    let stop = fraction-stops f e after in
    (rw (leading_digits-run w rest facts.digits stop) (rw facts.test (rw (ap fraction_of (after_digits-run w rest facts.digits stop) ∙ fraction-read f e hf after) (rw (exponent-read e exponent_negative ds he) refl))))

-- a text that begins with a digit has no sign
unsigned-parts : (w rest : List ℕ) → AllDigits w → 0 < length w → parts_of (w ++ rest) ≡ unsigned_of false (w ++ rest)
unsigned-parts [] rest h some = absurd (omega arith)
unsigned-parts (c ∷ cs) rest h some = grind (arith, digit_range, ne_eqb)

signed-parts : (negative : Bool) (w rest : List ℕ) → IsWhole w → parts_of (sign_text negative ++ (w ++ rest)) ≡ unsigned_of negative (w ++ rest)
signed-parts true w rest h = refl
signed-parts false w rest h = let facts = whole-facts w h in unsigned-parts w rest facts.digits facts.some

pub parts-read : (t : List ℕ) (n : Parts) → SpellsNumber t n → parts_of t ≡ Some n
parts-read t n s = grind (arith, signed-parts, unsigned-read)
