-- The parts of a number text (RFC 8259, section 6): which parts a text spells, and the parts read from left to right.
use Rattle.std.specs.Prelude.{◌≡◌, ℕ, ◌==◌, Bool, true, false, not, List, [], ◌∷◌, ◌++◌, length, Option, Some, None, option_and_then, if◌then◌else◌, codes}
use Rattle.decimal_text.specs.Grammar.{is_digit, is_e, AllDigits, IsWhole}
use Rattle.decimal_text.specs.Digits.{leading_digits, after_digits}

-- a number's sign, its digits before and after the point, and its exponent's sign and digits
pub record Parts : Type 0 where
  pub negative : Bool
  pub whole : List ℕ
  pub fraction : List ℕ
  pub exponent_negative : Bool
  pub exponent : List ℕ

-- a minus sign or nothing
abbrev pub sign_text : Bool → List ℕ
sign_text negative = if negative then codes "-" else []

-- a point and the digits after it, if there are any
abbrev pub fraction_text : List ℕ → List ℕ
fraction_text [] = []
fraction_text (d ∷ ds) = codes "." ++ d ∷ ds

-- an exponent's sign text, and whether the exponent is negative
pub data SpellsSign : List ℕ → Bool → Type 0 where
  spells_no_sign : SpellsSign [] false
  spells_plus : SpellsSign (43 ∷ []) false
  spells_minus : SpellsSign (45 ∷ []) true

-- an exponent's text, whether it is negative, and its digits: "e" or "E", a sign or none, one digit or more
pub data SpellsExponent : List ℕ → Bool → List ℕ → Type 0 where
  spells_no_exponent : SpellsExponent [] false []
  spells_exponent : (e : ℕ) (s : List ℕ) (negative : Bool) (b : ℕ) (bs : List ℕ) → is_e e ≡ true → SpellsSign s negative
      → is_digit b ≡ true → AllDigits bs → SpellsExponent (e ∷ s ++ b ∷ bs) negative (b ∷ bs)

-- the text is a number with these parts, in this order
pub record SpellsNumber (t : List ℕ) (n : Parts) : Type 0 where
  pub exponent_text : List ℕ
  pub text : t ≡ sign_text n.negative ++ (n.whole ++ (fraction_text n.fraction ++ exponent_text))
  pub whole : IsWhole n.whole
  pub fraction : AllDigits n.fraction
  pub exponent : SpellsExponent exponent_text n.exponent_negative n.exponent

-- one digit, or more that do not begin with a zero
abbrev pub is_whole : List ℕ → Bool
is_whole [] = false
is_whole (c ∷ []) = true
is_whole (c ∷ d ∷ ds) = not (c == 48)

-- a fraction's digits at the front, if there is a point, and what follows them
abbrev pub fraction_of : List ℕ → Option (List ℕ × List ℕ)
fraction_of [] = Some ([], [])
fraction_of (c ∷ cs) =
    if c == 46 then (if length (leading_digits cs) == 0 then None else Some (leading_digits cs, after_digits cs))
    else Some ([], c ∷ cs)

-- digits, one or more, and nothing else
abbrev pub all_digits_of : List ℕ → Option (List ℕ)
all_digits_of t =
    if length (leading_digits t) == 0 then None
    else (if length (after_digits t) == 0 then Some (leading_digits t) else None)

-- an exponent's sign, a plus or none being positive, and its digits
abbrev pub signed_digits_of : List ℕ → Option (Bool × List ℕ)
signed_digits_of [] = None
signed_digits_of (c ∷ cs) =
    if c == 45 then option_and_then (λ ds. Some (true, ds)) (all_digits_of cs)
    else (if c == 43 then option_and_then (λ ds. Some (false, ds)) (all_digits_of cs)
    else option_and_then (λ ds. Some (false, ds)) (all_digits_of (c ∷ cs)))

-- an exponent, if there is one, and nothing else
abbrev pub exponent_of : List ℕ → Option (Bool × List ℕ)
exponent_of [] = Some (false, [])
exponent_of (c ∷ cs) = if is_e c then signed_digits_of cs else None

-- the parts of a number without a sign
abbrev pub unsigned_of : Bool → List ℕ → Option Parts
unsigned_of negative t =
    if is_whole (leading_digits t)
    then option_and_then
    (λ f. option_and_then
    (λ e. Some (record { negative = negative; whole = leading_digits t; fraction = f.0; exponent_negative = e.0; exponent = e.1 }))
    (exponent_of f.1))
    (fraction_of (after_digits t))
    else None

-- the parts of a number text, or none where the text is no number
abbrev pub parts_of : List ℕ → Option Parts
parts_of [] = None
parts_of (c ∷ cs) = if c == 45 then unsigned_of true cs else unsigned_of false (c ∷ cs)
