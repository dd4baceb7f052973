-- A number of few digits, where it ends.
use Rattle.std.proofs.Common.{◌≡◌, ℕ, ◌+◌, ◌-◌, ◌*◌, ◌^◌, ◌<◌, ◌≤◌, Bool, true, false, List, [], ◌∷◌, ◌++◌, refl, sym, ap, ◌∙◌, arith}
use Rattle.std.proofs.lemmas.Nat.{pow-add}
use Rattle.std.proofs.Math.Nat.{one-le-pow, mul-lt-mul_of_pos_right}
use Rattle.json_reading.proofs.Ending.{Ends, end_is}
use Rattle.json_value.specs.Reading.{after_digits}
use Rattle.decimal_text.specs.Digits.{digits_value_after}
use Rattle.decimal_text.specs.Grammar.{is_digit, AllDigits}
use Rattle.decimal_text.specs.Parts.{sign_text, fraction_text}
use Rattle.decimal_text.specs.Rounding.{signed}
use Rattle.geometry.specs.Units.{unit_places, input_limit}
use Rattle.unit_scanning.specs.Numbers.{AreDigits, IsFractionOf, IsUnits, digits_prefix, ends, starts_digit, whole_prefix}
use Rattle.unit_scanning.proofs.NumberParts.{ends_are, number_is_at}
use Rattle.unit_scanning.proofs.Rounded.{whole_units}

-- digits that no digit follows are those at the front
prefix_is : (ds rest : List ℕ) → AllDigits ds → starts_digit rest ≡ false → digits_prefix (ds ++ rest) ≡ ds
unfolding digits_prefix
prefix_is [] [] h none = refl
prefix_is [] (b ∷ bs) h none = rw none refl
prefix_is (d ∷ ds) rest h none = rw h.0 (ap (λ xs. d ∷ xs) (prefix_is ds rest h.1 none))

after_is : (ds rest : List ℕ) → AllDigits ds → starts_digit rest ≡ false → after_digits (ds ++ rest) ≡ rest
unfolding after_digits
after_is [] [] h none = refl
after_is [] (b ∷ bs) h none = rw none refl
after_is (d ∷ ds) rest h none = rw h.0 (after_is ds rest h.1 none)

no_digit_ends : (rest : List ℕ) → Ends rest → starts_digit rest ≡ false
no_digit_ends [] h = refl
no_digit_ends (b ∷ bs) h = end_is (λ c. is_digit c ≡ false) refl refl refl refl refl refl refl b h

pub no_digit_then : (ds rest : List ℕ) → Ends rest → starts_digit (fraction_text ds ++ rest) ≡ false
no_digit_then [] rest h = no_digit_ends rest h
no_digit_then (d ∷ ds) rest h = refl

-- what digits that no digit follows are
pub digits_are_all : (bytes : List ℕ) (value count : ℕ) (rest : List ℕ) → AreDigits bytes 0 value count rest → starts_digit rest ≡ false
    → (value ≡ digits_value_after 0 (digits_prefix bytes)) × (rest ≡ after_digits bytes)
digits_are_all bytes value count rest a none =
    let first : digits_prefix bytes ≡ a.digits = ap digits_prefix a.text ∙ prefix_is a.digits rest a.all none in
    let then : after_digits bytes ≡ rest = ap after_digits a.text ∙ after_is a.digits rest a.all none in
    (a.value_is ∙ ap (λ ds. digits_value_after 0 ds) (sym first), sym then)

pub plain_is : (bytes prefix following rest : List ℕ) (negative : Bool) (whole count value places size : ℕ)
    → bytes ≡ sign_text negative ++ prefix → whole_prefix prefix ≡ true → AreDigits prefix 0 whole count following → IsFractionOf following whole value places rest → places ≤ unit_places
    → size ≡ value * 10 ^ (unit_places - places) → size ≤ input_limit → ends rest ≡ true → IsUnits bytes (signed negative size) true rest
plain_is bytes prefix following rest negative whole count value places size sign is a f few scaled small he =
    let none : starts_digit following ≡ false = ap starts_digit f.text ∙ no_digit_then f.digits rest (ends_are rest he) in
    let w = digits_are_all prefix whole count following a none in
    number_is_at unit_places input_limit bytes prefix following rest negative whole value places size true sign is w.0 w.1 f he
    (whole_units negative value places size few scaled small)

-- in units it is below 10^18
pub product_small : (value places power : ℕ) → places ≤ 9 → value < 10 ^ 9 * 10 ^ places → power ≡ 10 ^ (9 - places) → value * power < 10 ^ 18
product_small value places power few small is =
    let some : 1 ≤ power = rw is (one-le-pow (9 - places) 10 (omega arith)) in
    let sum : 10 ^ 9 ≡ 10 ^ places * 10 ^ (9 - places) = (let e : 9 ≡ places + (9 - places) = omega arith in ap (λ n. 10 ^ n) e ∙ pow-add 10 places (9 - places)) in
    let tens : 10 ^ 9 ≡ 10 ^ places * power = rw is sum in
    let less : value * power < (10 ^ 9 * 10 ^ places) * power = mul-lt-mul_of_pos_right small some in
    let all : (10 ^ 9 * 10 ^ places) * power ≡ 10 ^ 9 * (10 ^ places * power) = omega arith in
    rw (all, sym tens) at less
