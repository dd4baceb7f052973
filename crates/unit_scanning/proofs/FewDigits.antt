-- Digits that are read one after another, up to some number of them.
use Rattle.std.proofs.Common.{◌≡◌, ℕ, ◌+◌, ◌-◌, ◌*◌, ◌^◌, ◌<◌, true, List, [], ◌∷◌, ◌++◌, sym, ap, ◌∙◌, append_assoc, length-append, add-one, arith}
use Rattle.std.proofs.Math.Nat.{pow-suc}
use Rattle.decimal_text.specs.Grammar.{is_digit, AllDigits}
use Rattle.decimal_text.proofs.DigitRuns.{digit_range}
use Rattle.decimal_text.proofs.DigitsValue.{digits_value_after-append}
use Rattle.unit_scanning.specs.Numbers.{AreDigits, IsDigitFirst}

one_more : (ds : List ℕ) (d : ℕ) → AllDigits ds → is_digit d ≡ true → AllDigits (ds ++ d ∷ [])
one_more [] d h is = (is, tt)
one_more (b ∷ bs) d h is = (h.0, one_more bs d h.1 is)

pub digits_go_on : (bytes : List ℕ) (start value longer count : ℕ) (rest following : List ℕ) → AreDigits bytes start value count rest → IsDigitFirst rest value longer following → AreDigits bytes start longer (count + 1) following
digits_go_on bytes start value longer count rest following a f = record {
  digits = a.digits ++ f.digit ∷ [];
  all = one_more a.digits f.digit a.all f.is;
  text = a.text ∙ ap (λ r. a.digits ++ r) f.text ∙ sym (append_assoc a.digits (f.digit ∷ []) following);
  value_is = f.value_is ∙ ap (λ v. 10 * v + (f.digit - 48)) a.value_is ∙ sym (digits_value_after-append start a.digits (f.digit ∷ []));
  count_is = let l = length-append a.digits (f.digit ∷ []) in omega (arith, l, a.count_is);
}

pub digits_stay_small : (start value longer count : ℕ) (rest following : List ℕ) → value < (start + 1) * 10 ^ count → IsDigitFirst rest value longer following → longer < (start + 1) * 10 ^ (count + 1)
digits_stay_small start value longer count rest following small f =
    let step : 10 ^ (count + 1) ≡ 10 ^ count * 10 = rw add-one (pow-suc 10 count) in
    let range = digit_range f.digit f.is in
    let is = f.value_is in
    rw step (omega (arith, range, is, small))
