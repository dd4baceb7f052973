-- A number is read, whatever ends it.
use Rattle.std.proofs.Common.{◌≡◌, ℕ, Bool, true, false, List, [], ◌∷◌, ◌++◌, Some, None, refl, ap, append_assoc, arith}
use Rattle.std.specs.Prelude.{◌||◌, ◌==◌}
use Rattle.json_value.specs.declared.json.Json.{Json}
use Rattle.json_value.specs.declared.json.Json.TheVariants as j
use Rattle.decimal_text.specs.Grammar.{is_digit, AllDigits, IsMinus, no_minus, one_minus, IsWhole, whole_zero, whole_digits, IsFraction, IsSign, is_e, IsExponent, no_exponent, exponent, IsNumber, number_of}
use Rattle.json_value.specs.Reading.{Parse, after_digits, after_some_digits, after_minus, after_whole, after_fraction, after_sign, after_exponent, after_number, number_at, skip, after_word, value_with}
use Rattle.json_reading.proofs.Steps.{differs}
use Rattle.json_reading.proofs.Ending.{Ends, end_is}
use Rattle.json_reading.proofs.NumbersRead.{cut, e_is}

-- No byte of a kind comes first.
abbrev NoFirst : (ℕ → Bool) → List ℕ → Type 0
NoFirst test [] = Unit {0}
NoFirst test (b ∷ bs) = test b ≡ false

abbrev is_dot : ℕ → Bool
is_dot b = b == 46

no_digit : (rest : List ℕ) → Ends rest → NoFirst is_digit rest
no_digit rest h = grind (arith, end_is)

no_e : (rest : List ℕ) → Ends rest → NoFirst is_e rest
no_e rest h = grind (arith, end_is)

exponent_no_digit : {e : List ℕ} → IsExponent e → (rest : List ℕ) → Ends rest → NoFirst is_digit (e ++ rest)
exponent_no_digit h0 rest h = grind (arith, no_digit, e_is)

exponent_no_dot : {e : List ℕ} → IsExponent e → (rest : List ℕ) → Ends rest → NoFirst is_dot (e ++ rest)
exponent_no_dot h0 rest h = grind (arith, end_is, e_is)

fraction_no_digit : {f : List ℕ} → IsFraction f → (rest : List ℕ) → NoFirst is_digit rest → NoFirst is_digit (f ++ rest)
fraction_no_digit h rest k = grind arith

digits_again : (t rest : List ℕ) → AllDigits t → NoFirst is_digit rest → after_digits (t ++ rest) ≡ rest
unfolding after_digits
digits_again [] rest h n = grind arith
digits_again (b ∷ t) rest h n = rw h.0 (digits_again t rest h.1 n)

some_again : (b : ℕ) (t rest : List ℕ) → is_digit b ≡ true → AllDigits t → NoFirst is_digit rest → after_some_digits (b ∷ (t ++ rest)) ≡ Some rest
some_again b t rest d h n = unfold after_some_digits in rw d (ap Some (digits_again t rest h n))

minus_again : {m w : List ℕ} → IsMinus m → IsWhole w → (xs : List ℕ) → after_minus (m ++ (w ++ xs)) ≡ w ++ xs
minus_again h k xs = unfold after_minus in grind (arith, differs)

whole_again : {w : List ℕ} → IsWhole w → (xs : List ℕ) → NoFirst is_digit xs → after_whole (w ++ xs) ≡ Some xs
whole_again h xs k = unfold after_whole in grind (arith, some_again)

fraction_again : {f : List ℕ} → IsFraction f → (xs : List ℕ) → NoFirst is_digit xs → NoFirst is_dot xs → after_fraction (f ++ xs) ≡ Some xs
fraction_again h xs k m = unfold after_fraction in grind (arith, some_again)

exponent_stop : (xs : List ℕ) → NoFirst is_e xs → after_exponent xs ≡ Some xs
exponent_stop xs h = unfold after_exponent in grind arith

sign_again : {s : List ℕ} → IsSign s → (b : ℕ) (xs : List ℕ) → is_digit b ≡ true → after_sign (s ++ (b ∷ xs)) ≡ b ∷ xs
sign_again h b xs k = unfold after_sign in grind (arith, differs)

exponent_again : {e : List ℕ} → IsExponent e → (rest : List ℕ) → Ends rest → after_exponent (e ++ rest) ≡ Some rest
unfolding after_exponent
exponent_again no_exponent rest h = exponent_stop rest (no_e rest h)
exponent_again (exponent e s b bs k t d ds) rest h = grind (arith, append_assoc, sign_again, some_again, no_digit)

after_again : {t : List ℕ} → IsNumber t → (rest : List ℕ) → Ends rest → after_number (t ++ rest) ≡ Some rest
after_again (number_of m w f e hm hw hf he) rest h = unfold after_number in
    search (append_assoc, minus_again, whole_again, fraction_no_digit, exponent_no_digit, fraction_again, exponent_no_dot, exponent_again)

pub number_again : {t : List ℕ} → IsNumber t → (rest : List ℕ) → Ends rest → number_at (t ++ rest) ≡ Some (t, rest)
number_again {t} n rest h = unfold number_at in rw (after_again n rest h, cut t rest (t ++ rest) refl) refl

-- A number begins with a minus or a digit.
abbrev pub is_lead : ℕ → Bool
is_lead b = b == 45 || is_digit b

pub number_leads : {t : List ℕ} → IsNumber t → (b : ℕ) × (ts : List ℕ) × (t ≡ b ∷ ts) × (is_lead b ≡ true)
number_leads (number_of m w f e one_minus hw hf he) = (45, w ++ (f ++ e), refl, refl)
number_leads (number_of m w f e no_minus whole_zero hf he) = (48, f ++ e, refl, refl)
number_leads (number_of m w f e no_minus (whole_digits b bs d z ds) hf he) = (b, bs ++ (f ++ e), refl, rw (d, differs is_digit b 45 refl d) refl)

pub skip_number : {t : List ℕ} → IsNumber t → (rest : List ℕ) → skip (t ++ rest) ≡ t ++ rest
skip_number n rest = unfold skip in let l = number_leads n in rw l.2 (grind (arith, differs))

pub number_no_word : {t : List ℕ} → IsNumber t → (q : ℕ) (word rest : List ℕ) → is_lead q ≡ false → after_word (q ∷ word) (t ++ rest) ≡ None
number_no_word n q word rest other = unfold after_word in let l = number_leads n in rw l.2 (rw (differs is_lead l.0 q other l.3) refl)

pub with_number : (fits : List ℕ → Bool) (items : Parse (List Json)) (members : Parse (List (List ℕ × Json))) {t : List ℕ} → IsNumber t → (rest : List ℕ) → Ends rest → value_with fits items members (t ++ rest) ≡ Some (j.Number t, rest)
with_number fits items members {t} n rest h = unfold value_with in grind (arith, number_leads n, number_again n rest h, differs)
