-- A number of more decimals than are kept.
use Rattle.std.proofs.Common.{◌≡◌, ℕ, ◌+◌, ◌-◌, ◌*◌, ◌%◌, ◌^◌, ◌<◌, ◌≤◌, Bool, true, false, List, [], ◌∷◌, ◌++◌, length, Ok, sym, ap, subst, ◌∙◌, append_assoc, length-append, arith}
use Rattle.std.specs.Prelude.{◌==◌}
use Rattle.std.proofs.lemmas.Nat.{mod-mul-add}
use Rattle.decimal_text.specs.Digits.{digits_value_after, digits_value}
use Rattle.decimal_text.specs.Grammar.{AllDigits}
use Rattle.decimal_text.specs.Parts.{fraction_text, sign_text}
use Rattle.decimal_text.specs.Rounding.{nearest, rounded_of, signed}
use Rattle.decimal_text.proofs.DigitsValue.{digits_value_after-append, digits_value_after-split}
use Rattle.geometry.specs.Units.{unit_places, units_in_one, input_limit}
use Rattle.unit_scanning.specs.Numbers.{AreDigits, IsFractionOf, IsUnits, ends, starts_digit, whole_prefix}
use Rattle.unit_scanning.proofs.NumberParts.{ends_are, number_is_at}
use Rattle.unit_scanning.proofs.PlainNumbers.{digits_are_all, no_digit_then}
use Rattle.unit_scanning.proofs.Rounded.{rounded_units, whole_units}

both_all : (xs ys : List ℕ) → AllDigits xs → AllDigits ys → AllDigits (xs ++ ys)
both_all [] ys h k = k
both_all (x ∷ xs) ys h k = (h.0, both_all xs ys h.1 k)

text_of_both : (following next rest ds es : List ℕ) → following ≡ fraction_text ds ++ next → next ≡ es ++ rest → (0 < length es → 0 < length ds) → following ≡ fraction_text (ds ++ es) ++ rest
text_of_both following next rest [] [] hb hn some = hb ∙ hn
text_of_both following next rest [] (e ∷ es) hb hn some = let k = some (omega arith) in absurd (omega (arith, k))
text_of_both following next rest (d ∷ ds) es hb hn some = hb ∙ ap (λ r. 46 ∷ d ∷ (ds ++ r)) hn ∙ ap (λ r. 46 ∷ d ∷ r) (sym (append_assoc ds es rest))

-- decimals, and then more of them
pub fraction_of_both : (following next rest : List ℕ) (whole kept cut places more : ℕ) → IsFractionOf following whole kept places next → AreDigits next 0 cut more rest → (0 < more → 0 < places)
    → IsFractionOf following whole (kept * 10 ^ more + cut) (places + more) rest
fraction_of_both following next rest whole kept cut places more a b some =
    let l = length-append a.digits b.digits in
    record {
      digits = a.digits ++ b.digits;
      all = both_all a.digits b.digits a.all b.all;
      text = text_of_both following next rest a.digits b.digits a.text b.text (λ h. let k = some (omega (arith, h, b.count_is)) in omega (arith, k, a.places_are));
      value_is = (let cut_is : cut ≡ digits_value b.digits = b.value_is in let many : 10 ^ more ≡ 10 ^ length b.digits = ap (λ n. 10 ^ n) b.count_is in
          rw (many, cut_is, a.value_is) (sym (digits_value_after-append whole a.digits b.digits ∙ digits_value_after-split (digits_value_after whole a.digits) b.digits)));
      places_are = omega (arith, l, a.places_are, b.count_is);
    }

pub more_rounded : (negative : Bool) (kept cut places more parts size : ℕ) → places ≡ unit_places → 0 < more → parts ≡ 10 ^ more → cut < parts → size ≡ nearest (kept * parts + cut) parts → size ≤ input_limit
    → rounded_of negative ((kept * 10 ^ more + cut) * units_in_one) (10 ^ (places + more)) input_limit ≡ Ok (record { value = signed negative size; exact = cut == 0 })
more_rounded negative kept cut places more parts size all some tens few near small =
    let over : (places + more) - unit_places ≡ more = omega (arith, all) in
    let step : parts ≡ 1 * 10 ^ ((places + more) - unit_places) = (let e : parts ≡ 1 * 10 ^ more = omega (arith, tens) in e ∙ ap (λ m. 1 * 10 ^ m) (sym over)) in
    let left : (kept * parts + cut) % parts ≡ cut = mod-mul-add kept parts cut few in
    let r = rounded_units negative (kept * parts + cut) (places + more) parts size (omega (arith, all, some)) step near small in
    subst (λ p. rounded_of negative ((kept * p + cut) * units_in_one) (10 ^ (places + more)) input_limit ≡ Ok (record { value = signed negative size; exact = cut == 0 })) tens
    (subst (λ m. rounded_of negative ((kept * parts + cut) * units_in_one) (10 ^ (places + more)) input_limit ≡ Ok (record { value = signed negative size; exact = m == 0 })) left r)

pub none_more : (negative : Bool) (kept cut places more power : ℕ) → more ≡ 0 → cut < 10 ^ more → places ≤ unit_places → power ≡ 10 ^ (unit_places - places) → kept * power ≤ input_limit
    → rounded_of negative ((kept * 10 ^ more + cut) * units_in_one) (10 ^ (places + more)) input_limit ≡ Ok (record { value = signed negative (kept * power); exact = true })
none_more negative kept cut places more power none less few tens small =
    let one : 10 ^ more ≡ 1 = ap (λ n. 10 ^ n) none in
    let zero_left : cut ≡ 0 = omega (arith, less, one) in
    let same : kept * 10 ^ more + cut ≡ kept = rw one (omega (arith, zero_left)) in
    let length_is : places + more ≡ places = omega (arith, none) in
    rw (same, length_is) (whole_units negative kept places (kept * power) few (ap (λ p. kept * p) tens) small)

pub cut_is : (bytes prefix following next rest : List ℕ) (negative : Bool) (whole count kept cut places more size : ℕ) (exact : Bool)
    → bytes ≡ sign_text negative ++ prefix → whole_prefix prefix ≡ true → AreDigits prefix 0 whole count following → IsFractionOf following whole kept places next → AreDigits next 0 cut more rest → (0 < more → 0 < places)
    → ends rest ≡ true → rounded_of negative ((kept * 10 ^ more + cut) * units_in_one) (10 ^ (places + more)) input_limit ≡ Ok (record { value = signed negative size; exact = exact })
    → IsUnits bytes (signed negative size) exact rest
cut_is bytes prefix following next rest negative whole count kept cut places more size exact sign is a b d some he r =
    let f = fraction_of_both following next rest whole kept cut places more b d some in
    let none : starts_digit following ≡ false = ap starts_digit f.text ∙ no_digit_then f.digits rest (ends_are rest he) in
    let w = digits_are_all prefix whole count following a none in
    number_is_at unit_places input_limit bytes prefix following rest negative whole (kept * 10 ^ more + cut) (places + more) size exact sign is w.0 w.1 f he r

pub parts_are : (more parts : ℕ) → more ≤ 9 → parts ≡ 10 ^ (9 - (9 - more)) → parts ≡ 10 ^ more
parts_are more parts few is = is ∙ (let e : 9 - (9 - more) ≡ more = omega arith in ap (λ n. 10 ^ n) e)
