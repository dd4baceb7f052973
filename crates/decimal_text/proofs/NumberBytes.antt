-- A number is ASCII, and so it is UTF-8, and so is the text of any units.
pub use Rattle.std.proofs.lemmas.Str.Ascii.{IsAscii-cons as ascii_cons}
use Rattle.std.proofs.Common.{◌≡◌, ℕ, zero, suc, ◌+◌, ◌/◌, ◌%◌, ◌^◌, ◌<◌, ℤ, pos, int_lt, unsigned_abs, Bool, true, false, if◌then◌else◌, decimal, List, [], ◌∷◌, ◌++◌, sym, subst, arith}
use Rattle.std.specs.Fmt.{digit_glyph, digits_onto, digits}
use Rattle.std.specs.List.{AllByRecursion}
use Rattle.std.specs.Prelude.{◌==◌, IsUtf8}
use Rattle.std.specs.Str.{IsAscii}
use Rattle.std.proofs.lemmas.Bool.Decides.{nat_tests}
use Rattle.std.proofs.lemmas.Str.{IsAscii-append, IsUtf8-from_ascii}
use Rattle.std.proofs.lemmas.Str.Ascii.{IsAscii-nil}
use Rattle.owned_values.proofs.Elements.{all_append}
use Rattle.decimal_text.specs.Grammar.{is_digit, AllDigits, IsMinus, IsWhole, IsFraction, IsExponent, IsNumber, number_of}
use Rattle.decimal_text.specs.Parts.{sign_text, fraction_text}
use Rattle.decimal_text.specs.Scaling.{units_text}
use Rattle.decimal_text.specs.Units.{fixed, before_trimmed, trimmed}

digit_ascii : (b : ℕ) → is_digit b ≡ true → b < 128
digit_ascii b h = grind (arith, nat_tests)

digits_ascii : (ds : List ℕ) → AllDigits ds → IsAscii ds
digits_ascii [] h = IsAscii-nil
digits_ascii (b ∷ ds) h = ascii_cons b ds (digit_ascii b h.0) (digits_ascii ds h.1)

minus_ascii : {m : List ℕ} → IsMinus m → IsAscii m
minus_ascii h = grind arith

whole_ascii : {w : List ℕ} → IsWhole w → IsAscii w
whole_ascii h = grind (arith, digit_ascii, digits_ascii)

fraction_ascii : {f : List ℕ} → IsFraction f → IsAscii f
fraction_ascii h = grind (arith, digit_ascii, digits_ascii)

exponent_ascii : {e : List ℕ} → IsExponent e → IsAscii e
exponent_ascii h = grind (arith, nat_tests, digit_ascii, digits_ascii)

pub number_ascii : {t : List ℕ} → IsNumber t → IsAscii t
number_ascii (number_of m w f e hm hw hf he) =
    IsAscii-append m _ (minus_ascii hm) (IsAscii-append w _ (whole_ascii hw) (IsAscii-append f e (fraction_ascii hf) (exponent_ascii he)))

pub number_utf8 : {t : List ℕ} → IsNumber t → IsUtf8 t
number_utf8 {t} h = IsUtf8-from_ascii t (number_ascii h)

-- bytes that are the text of a number are UTF-8
pub same_utf8 : (s t : List ℕ) → s ≡ t → IsNumber t → IsUtf8 s
same_utf8 s t e h = subst (λ b. IsUtf8 b) (sym e) (number_utf8 h)

-- ---- the text of units, however many there are: no byte of it comes after the digits

abbrev AreSmall : List ℕ → Type 0
AreSmall bs = AllByRecursion (λ b. b < 58) bs

either_small : (b : Bool) (xs ys : List ℕ) → AreSmall xs → AreSmall ys → AreSmall (if b then xs else ys)
either_small true xs ys h k = h
either_small false xs ys h k = k

digits_onto_small : (k n : ℕ) (acc : List ℕ) → AreSmall acc → AreSmall (digits_onto k 10 false n acc)
digits_onto_small zero n acc h = h
digits_onto_small (suc k) n acc h =
    let more : AreSmall (digit_glyph false (n % 10) ∷ acc) = (grind (arith, nat_tests), h) in
    either_small (n / 10 == 0) _ _ more (digits_onto_small k (n / 10) (digit_glyph false (n % 10) ∷ acc) more)

decimal_small : (n : ℕ) → AreSmall (decimal n)
decimal_small n = unfold digits in digits_onto_small 64 n [] tt

fixed_small : (places n : ℕ) → AreSmall (fixed places n)
fixed_small zero n = tt
fixed_small (suc places) n = all_append (λ b. b < 58) (fixed places (n / 10)) ((48 + n % 10) ∷ []) (fixed_small places (n / 10)) (omega arith, tt)

-- a digit before those that are left
before_small : (c : ℕ) (ds : List ℕ) → c < 58 → AreSmall ds → AreSmall (before_trimmed c ds)
before_small c [] small h = either_small (c == 48) [] (c ∷ []) tt (small, tt)
before_small c (d ∷ ds) small h = (small, h)

trimmed_small : (ds : List ℕ) → AreSmall ds → AreSmall (trimmed ds)
trimmed_small [] h = h
trimmed_small (c ∷ cs) h = before_small c (trimmed cs) h.0 (trimmed_small cs h.1)

fraction_small : (ds : List ℕ) → AreSmall ds → AreSmall (fraction_text ds)
fraction_small [] h = tt
fraction_small (d ∷ ds) h = (omega arith, h)

sign_small : (negative : Bool) → AreSmall (sign_text negative)
sign_small true = (omega arith, tt)
sign_small false = tt

pub units_small : (units : ℤ) (places : ℕ) → AllByRecursion (λ b. b < 58) (units_text units places)
units_small units places = unfold units_text in
    let size : ℕ = unsigned_abs units in
    let prefix = all_append (λ b. b < 58) (sign_text (int_lt units (pos 0))) (decimal (size / 10 ^ places)) (sign_small (int_lt units (pos 0))) (decimal_small (size / 10 ^ places)) in
    let rest = fraction_small (trimmed (fixed places (size % 10 ^ places))) (trimmed_small (fixed places (size % 10 ^ places)) (fixed_small places (size % 10 ^ places))) in
    all_append (λ b. b < 58) (sign_text (int_lt units (pos 0)) ++ decimal (size / 10 ^ places)) (fraction_text (trimmed (fixed places (size % 10 ^ places)))) prefix rest

small_ascii : (bs : List ℕ) → AreSmall bs → IsAscii bs
small_ascii [] h = IsAscii-nil
small_ascii (b ∷ bs) h = ascii_cons b bs (omega (arith, h.0)) (small_ascii bs h.1)

pub units_utf8 : (units : ℤ) (places : ℕ) → IsUtf8 (units_text units places)
units_utf8 units places = IsUtf8-from_ascii _ (small_ascii (units_text units places) (units_small units places))
