-- A number that is read in parts is one, and scales to the units.
use Rattle.std.proofs.Common.{◌≡◌, ℕ, ◌+◌, ◌-◌, ◌*◌, ◌^◌, ◌≤◌, Bool, true, false, not, cond, eqb, List, [], ◌∷◌, ◌++◌, length, Some, Ok, refl, sym, ap, ◌∙◌, subst, append_assoc, length-append, ◌≢◌, arith}
use Rattle.std.proofs.lemmas.Bool.{eqb-true, not-true}
use Rattle.std.proofs.lemmas.List.{append-nil}
use Rattle.decimal_text.proofs.SpellsParts.{fraction_text-some, fraction-grammar}
use Rattle.json_value.specs.declared.json.Json.{Json}
use Rattle.json_value.specs.declared.json.Json.TheVariants as j
use Rattle.decimal_text.specs.Digits.{digits_value_after, digits_value}
use Rattle.decimal_text.specs.Grammar.{is_digit, AllDigits, IsMinus, no_minus, one_minus, IsWhole, whole_zero, whole_digits, fraction, no_exponent, IsNumber, number_of}
use Rattle.decimal_text.specs.Parts.{Parts, sign_text, fraction_text, SpellsNumber, spells_no_exponent}
use Rattle.decimal_text.specs.Rounding.{signed, rounded_of}
use Rattle.decimal_text.specs.Scaling.{scaled_of, numerator, denominator}
use Rattle.decimal_text.proofs.DigitsValue.{digits_value_after-append}
use Rattle.decimal_text.proofs.Nearest.{rounded_of-whole}
use Rattle.decimal_text.proofs.ReadsParts.{parts-read}
use Rattle.decimal_text.proofs.ScaledNumber.{scaled_of-read}
use Rattle.json_value.specs.Reading.{Parse, value_at, after_digits}
use Rattle.json_reading.proofs.Ending.{Ends}
use Rattle.json_reading.proofs.NumbersFound.{with_number}
use Rattle.json_reading.proofs.Opened.{value_at_is}
use Rattle.unit_scanning.specs.Numbers.{digits_prefix, IsFractionOf, IsNumberAt, ends, starts_digit, whole_prefix}

all_by : (b : ℕ) (bs : List ℕ) (t : Bool) → is_digit b ≡ t → AllDigits bs → AllDigits (cond t (b ∷ bs) [])
all_by b bs true e h = (e, h)
all_by b bs false e h = tt

pub prefix_all : (bs : List ℕ) → AllDigits (digits_prefix bs)
unfolding digits_prefix
prefix_all [] = tt
prefix_all (b ∷ bs) = all_by b (digits_prefix bs) (is_digit b) refl (prefix_all bs)

split_by : (b : ℕ) (bs : List ℕ) (t : Bool) → is_digit b ≡ t → bs ≡ digits_prefix bs ++ after_digits bs → b ∷ bs ≡ digits_prefix (b ∷ bs) ++ after_digits (b ∷ bs)
unfolding digits_prefix after_digits
split_by b bs true e h = rw e (ap (λ xs. b ∷ xs) h)
split_by b bs false e h = rw e refl

pub prefix_split : (bs : List ℕ) → bs ≡ digits_prefix bs ++ after_digits bs
unfolding digits_prefix after_digits
prefix_split [] = refl
prefix_split (b ∷ bs) = split_by b bs (is_digit b) refl (prefix_split bs)

prefix_none : (bs : List ℕ) → starts_digit bs ≡ false → digits_prefix bs ≡ []
unfolding digits_prefix
prefix_none [] h = refl
prefix_none (b ∷ bs) h = rw h refl

whole_by : (b : ℕ) (bs : List ℕ) (t : Bool) → eqb b 48 ≡ t → cond t (not (starts_digit bs)) (is_digit b) ≡ true → IsWhole (digits_prefix (b ∷ bs))
unfolding digits_prefix
whole_by b bs true e h =
    let none : starts_digit bs ≡ false = not-true (starts_digit bs) h in
    let is : b ≡ 48 = eqb-true b 48 e in
    rw (is, prefix_none bs none) whole_zero
whole_by b bs false e h = rw h (whole_digits b (digits_prefix bs) h e (prefix_all bs))

pub whole_is : (bs : List ℕ) → whole_prefix bs ≡ true → IsWhole (digits_prefix bs)
whole_is [] h = cc
whole_is (b ∷ bs) h = whole_by b bs (eqb b 48) refl h

minus_is : (negative : Bool) → IsMinus (sign_text negative)
minus_is true = one_minus
minus_is false = no_minus

-- the parts of a number with no exponent
abbrev plain : Bool → List ℕ → List ℕ → Parts
plain negative w f = record { negative = negative; whole = w; fraction = f; exponent_negative = false; exponent = [] }

abbrev text_of : Bool → List ℕ → List ℕ → List ℕ
text_of negative w f = sign_text negative ++ (w ++ (fraction_text f ++ []))

text_spells : (negative : Bool) (w f : List ℕ) → IsWhole w → AllDigits f → SpellsNumber (text_of negative w f) (plain negative w f)
text_spells negative w f hw hf = record { exponent_text = []; text = refl; whole = hw; fraction = hf; exponent = spells_no_exponent }

scales : (places limit : ℕ) (negative : Bool) (w f : List ℕ) (v u : ℕ) (exact : Bool) → v ≡ digits_value_after (digits_value w) f → rounded_of negative (v * 10 ^ places) (10 ^ length f) limit ≡ Ok (record { value = signed negative u; exact = exact })
    → IsWhole w → AllDigits f → scaled_of places limit (text_of negative w f) ≡ Ok (record { value = signed negative u; exact = exact })
scales places limit negative w f v u exact hv hr hw hf =
    let n : Parts = plain negative w f in
    let digits : digits_value (w ++ f) ≡ v = digits_value_after-append 0 w f ∙ sym hv in
    let den : denominator n ≡ 10 ^ length f = ap (λ m. 10 ^ m) (let e : length f + 0 ≡ length f = omega arith in e) in
    let num : numerator n places ≡ v * 10 ^ places = (let e : places + 0 ≡ places = omega arith in ap (λ m. digits_value (w ++ f) * 10 ^ m) e) ∙ ap (λ m. m * 10 ^ places) digits in
    scaled_of-read places limit (text_of negative w f) n (parts-read (text_of negative w f) n (text_spells negative w f hw hf))
    ∙ rw (num, den) hr

number_is : (negative : Bool) (w f : List ℕ) → IsWhole w → AllDigits f → IsNumber (text_of negative w f)
number_is negative w f hw hf = number_of (sign_text negative) w (fraction_text f) [] (minus_is negative) hw (fraction-grammar f hf) no_exponent

pub ends_are : (rest : List ℕ) → ends rest ≡ true → Ends rest
ends_are [] h = tt
ends_are (b ∷ bs) h = h

joined : (s w f rest : List ℕ) → s ++ (w ++ (f ++ rest)) ≡ (s ++ (w ++ (f ++ []))) ++ rest
joined s w f rest = simp (append-nil, append_assoc)

found : (bytes t rest : List ℕ) (fits : List ℕ → Bool) (d : ℕ) → bytes ≡ t ++ rest → IsNumber t → Ends rest → value_at fits d bytes ≡ Some (j.Number t, rest)
found bytes t rest fits d h n e =
    let v = value_at_is fits d in
    ap (value_at fits d) h ∙ ap (λ (g : Parse Json). g (t ++ rest)) v.2 ∙ with_number fits v.0 v.1 n rest e

-- a point, and digits
pub fraction_found : (start value : ℕ) (bytes digits rest : List ℕ) → bytes ≡ 46 ∷ digits → value ≡ digits_value_after start (digits_prefix digits) → rest ≡ after_digits digits
    → length digits - length rest ≢ 0 → IsFractionOf bytes start value (length digits - length rest) rest
fraction_found start value bytes digits rest hb hv hr some =
    let f : List ℕ = digits_prefix digits in
    let split : digits ≡ f ++ rest = prefix_split digits ∙ ap (λ x. f ++ x) (sym hr) in
    let l = ap length split in
    let places : length digits - length rest ≡ length f = omega (arith, l, length-append f rest) in
    record {
      digits = f;
      all = prefix_all digits;
      text = hb ∙ ap (λ x. 46 ∷ x) split ∙ ap (λ x. x ++ rest) (sym (fraction_text-some f (omega arith)));
      value_is = hv;
      places_are = places;
    }

pub rest_shorter : (digits rest : List ℕ) → rest ≡ after_digits digits → length rest ≤ length digits
rest_shorter digits rest h =
    let l = ap length (prefix_split digits ∙ ap (λ x. digits_prefix digits ++ x) (sym h)) in
    omega (arith, l, length-append (digits_prefix digits) rest)

pub number_is_at : (places limit : ℕ) (bytes prefix following rest : List ℕ) (negative : Bool) (whole value tens u : ℕ) (exact : Bool)
    → bytes ≡ sign_text negative ++ prefix → whole_prefix prefix ≡ true → whole ≡ digits_value_after 0 (digits_prefix prefix) → following ≡ after_digits prefix
    → IsFractionOf following whole value tens rest → ends rest ≡ true → rounded_of negative (value * 10 ^ places) (10 ^ tens) limit ≡ Ok (record { value = signed negative u; exact = exact })
    → IsNumberAt places limit bytes (signed negative u) exact rest
number_is_at places limit bytes prefix following rest negative whole value tens u exact hs hw hv hb f he hr =
    let w : List ℕ = digits_prefix prefix in
    let whole_part : IsWhole w = whole_is prefix hw in
    let t : List ℕ = text_of negative w f.digits in
    let split : bytes ≡ t ++ rest = hs ∙ ap (λ x. sign_text negative ++ x) (prefix_split prefix ∙ ap (λ x. w ++ x) (sym hb ∙ f.text)) ∙ joined (sign_text negative) w (fraction_text f.digits) rest in
    record {
      text = t;
      prefix = λ fits d. found bytes t rest fits d split (number_is negative w f.digits whole_part f.all) (ends_are rest he);
      scaled = scales places limit negative w f.digits value u exact (f.value_is ∙ ap (λ n. digits_value_after n f.digits) hv) (subst (λ n. rounded_of negative (value * 10 ^ places) (10 ^ n) limit ≡ Ok (record { value = signed negative u; exact = exact })) f.places_are hr) whole_part f.all;
    }

-- no fraction
pub no_fraction_of : (following : List ℕ) (whole : ℕ) → IsFractionOf following whole whole 0 following
no_fraction_of following whole = record { digits = []; all = tt; text = refl; value_is = refl; places_are = refl }

pub whole_scales : (negative : Bool) (size limit : ℕ) → size ≤ limit → rounded_of negative (size * 10 ^ 0) (10 ^ 0) limit ≡ Ok (record { value = signed negative size; exact = true })
whole_scales negative size limit small = rounded_of-whole negative 1 size limit (omega arith) small
