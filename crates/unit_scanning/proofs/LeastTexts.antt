-- A number that is written in the shortest way is the text of its units.
use Rattle.std.proofs.Common.{◌≡◌, ◌≢◌, ℕ, zero, suc, ◌+◌, ◌-◌, ◌*◌, ◌/◌, ◌%◌, ◌^◌, ◌<◌, ◌≤◌, Bool, true, false, not, List, [], ◌∷◌, ◌++◌, length, get_or, replicate, All, le-ltb, decimal, refl, sym, ap, ◌∙◌, append_assoc, length-append, arith, rules, pos}
use Rattle.std.specs.Prelude.{int_lt}
use Rattle.std.proofs.lemmas.Bool.{ne_eqb, eq-eqb}
use Rattle.std.proofs.lemmas.Fmt.{decimal-digits_value}
use Rattle.std.proofs.lemmas.List.{append-nil}
use Rattle.std.proofs.lemmas.List.Elements.{All-cons}
use Rattle.std.proofs.lemmas.Str.Parse.{IsNumeralModel, numerals_by_fold}
use Rattle.std.proofs.Math.Nat.{pow-suc}
use Rattle.decimal_text.proofs.ScaledNumber.{unsigned_abs-signed}
use Rattle.decimal_text.specs.Digits.{IsDigit, digits_value_after, digits_value}
use Rattle.decimal_text.specs.Grammar.{AllDigits}
use Rattle.decimal_text.specs.Parts.{fraction_text, sign_text}
use Rattle.decimal_text.specs.Rounding.{signed}
use Rattle.decimal_text.specs.Scaling.{units_text}
use Rattle.decimal_text.specs.Units.{before_trimmed, fixed, trimmed}
use Rattle.decimal_text.proofs.DigitRuns.{digit_range, digit_true}
use Rattle.decimal_text.proofs.DigitsValue.{digits_value_after-append, digits_value_after-split, digits_value-lt}
use Rattle.decimal_text.proofs.Trimmed.{trimmed-push_zero}
use Rattle.geometry.specs.Units.{unit_places, input_limit}
use Rattle.unit_scanning.specs.Numbers.{AreDigits, IsFractionOf, whole_prefix}

-- ---- the whole part

own : IsNumeralModel AllDigits digits_value
own = numerals_by_fold AllDigits (search (digit_range, digit_true, rules)) digits_value_after (search rules)

zero_alone : (w following : List ℕ) → AllDigits w → whole_prefix (w ++ following) ≡ true → get_or w 0 0 ≡ 48 → length w ≡ 1
zero_alone [] following h is e = cc
zero_alone (c ∷ []) following h is e = refl
zero_alone (c ∷ d ∷ ds) following h is e = let none : not true ≡ true = rw (eq-eqb c 48 e, h.1.0) at is in cc

-- a whole part is what is written of its value
whole_text : (w following : List ℕ) → AllDigits w → 0 < length w → whole_prefix (w ++ following) ≡ true → digits_value w < 2 ^ 64 → decimal (digits_value w) ≡ w
whole_text w following h some is small = decimal-digits_value own w h some (zero_alone w following h is) small

-- ---- the decimals

-- the last digits are those that were put after the others
fixed_after : (k n : ℕ) (ds : List ℕ) → AllDigits ds → fixed (k + length ds) (digits_value_after n ds) ≡ fixed k n ++ ds
fixed_after k n [] h = let same : k + 0 ≡ k = omega arith in ap (λ p. fixed p n) same ∙ sym (append-nil (fixed k n))
fixed_after k n (c ∷ cs) h =
    let m : ℕ = 10 * n + (c - 48) in
    let range = digit_range c h.0 in
    let longer : k + suc (length cs) ≡ suc k + length cs = omega arith in
    let front : m / 10 ≡ n = omega (arith, range) in
    let end : 48 + m % 10 ≡ c = omega (arith, range) in
    ap (λ p. fixed p (digits_value_after m cs)) longer ∙ fixed_after (suc k) m cs h.1
    ∙ ap (λ x. (fixed k x ++ (48 + m % 10) ∷ []) ++ cs) front ∙ ap (λ x. (fixed k n ++ x ∷ []) ++ cs) end ∙ append_assoc (fixed k n) (c ∷ []) cs

digits_each : (ds : List ℕ) → AllDigits ds → All IsDigit ds
digits_each [] h = λ k d l. absurd (omega arith)
digits_each (c ∷ cs) h = All-cons IsDigit c cs (digit_range c h.0) (digits_each cs h.1)

abbrev zeros : ℕ → List ℕ
zeros z = replicate z 48

zeros_all : (ds : List ℕ) (z : ℕ) → AllDigits ds → AllDigits (ds ++ zeros z)
zeros_all [] zero h = tt
zeros_all [] (suc z) h = (refl, zeros_all [] z tt)
zeros_all (c ∷ cs) z h = (h.0, zeros_all cs z h.1)

zeros_length : (z : ℕ) → length (zeros z) ≡ z
zeros_length zero = refl
zeros_length (suc z) = ap suc (zeros_length z)

zeros_value : (v z : ℕ) → digits_value_after v (zeros z) ≡ v * 10 ^ z
zeros_value v zero = omega arith
zeros_value v (suc z) =
    let step : 10 ^ suc z ≡ 10 ^ z * 10 = pow-suc 10 z in
    let next = zeros_value (10 * v + (48 - 48)) z in
    rw step (omega (arith, next))

trimmed_zeros : (z : ℕ) (ds : List ℕ) → trimmed (ds ++ zeros z) ≡ trimmed ds
trimmed_zeros zero ds = ap trimmed (append-nil ds)
trimmed_zeros (suc z) ds = ap trimmed (sym (append_assoc ds (48 ∷ []) (zeros z))) ∙ trimmed_zeros z (ds ++ 48 ∷ []) ∙ trimmed-push_zero ds

-- digits with another at the end than zero stay
trimmed_some : (n : ℕ) (ds : List ℕ) → (0 < length ds → digits_value_after n ds % 10 ≢ 0) → trimmed ds ≡ ds
trimmed_some n [] last = refl
trimmed_some n (c ∷ []) last = let other : c ≢ 48 = λ e. last (omega arith) (omega (arith, e)) in rw (ne_eqb c 48 other) refl
trimmed_some n (c ∷ d ∷ ds) last = ap (before_trimmed c) (trimmed_some (10 * n + (c - 48)) (d ∷ ds) (λ some. last (omega arith)))

-- the units of a whole part and decimals, apart again
units_apart : (whole z size : ℕ) (ds : List ℕ) → AllDigits ds → length ds + z ≡ 9 → (0 < length ds → digits_value_after whole ds % 10 ≢ 0) → size ≡ digits_value_after whole ds * 10 ^ z
    → (size / 10 ^ 9 ≡ whole) × (trimmed (fixed 9 (size % 10 ^ 9)) ≡ ds)
units_apart whole z size ds h all last is =
    let es : List ℕ = ds ++ zeros z in
    let digits : AllDigits es = zeros_all ds z h in
    let many : length es ≡ 9 = length-append ds (zeros z) ∙ ap (λ n. length ds + n) (zeros_length z) ∙ all in
    let value : size ≡ digits_value_after whole es = is ∙ sym (digits_value_after-append whole ds (zeros z) ∙ zeros_value (digits_value_after whole ds) z) in
    let parts : size ≡ whole * 10 ^ 9 + digits_value es = value ∙ digits_value_after-split whole es ∙ ap (λ n. whole * 10 ^ n + digits_value es) many in
    let small : digits_value es < 10 ^ 9 = rw many at (digits_value-lt es (digits_each es digits)) in
    let front : size / 10 ^ 9 ≡ whole = omega (arith, parts, small) in
    let left : size % 10 ^ 9 ≡ digits_value es = omega (arith, parts, small) in
    let places : 9 ≡ 0 + length es = omega (arith, many) in
    let text : fixed 9 (digits_value es) ≡ es = ap (λ p. fixed p (digits_value es)) places ∙ fixed_after 0 0 es digits in
    (front, ap (λ n. trimmed (fixed 9 n)) left ∙ ap trimmed text ∙ trimmed_zeros z ds ∙ trimmed_some whole ds last)

-- ---- the number

sign_is : (negative : Bool) (size : ℕ) → (negative ≡ true → 0 < size) → int_lt (signed negative size) (pos 0) ≡ negative
sign_is false size some = le-ltb size 0 (omega arith)
sign_is true zero some = let no = some refl in absurd (omega arith)
sign_is true (suc n) some = refl

text_is : (negative : Bool) (w ds : List ℕ) (size : ℕ) → (negative ≡ true → 0 < size) → decimal (size / 10 ^ 9) ≡ w → trimmed (fixed 9 (size % 10 ^ 9)) ≡ ds
    → units_text (signed negative size) unit_places ≡ (sign_text negative ++ w) ++ fraction_text ds
text_is negative w ds size some whole decimals = unfold units_text in rw (sign_is negative size some, unsigned_abs-signed negative size, whole, decimals) refl

joined : (s w f rest : List ℕ) → s ++ (w ++ (f ++ rest)) ≡ ((s ++ w) ++ f) ++ rest
joined s w f rest = simp append_assoc

pub least_text : (bytes prefix following rest : List ℕ) (negative : Bool) (whole count kept places power : ℕ)
    → bytes ≡ sign_text negative ++ prefix → whole_prefix prefix ≡ true → AreDigits prefix 0 whole count following → 0 < count → IsFractionOf following whole kept places rest → places ≤ unit_places
    → (0 < places → kept % 10 ≢ 0) → power ≡ 10 ^ (unit_places - places) → kept * power ≤ input_limit → (negative ≡ true → 0 < kept * power)
    → bytes ≡ units_text (signed negative (kept * power)) unit_places ++ rest
least_text bytes prefix following rest negative whole count kept places power sign is a many f few last tens small some =
    let size : ℕ = kept * power in
    let all : length f.digits + (9 - places) ≡ 9 = omega (arith, f.places_are, few) in
    let ends : 0 < length f.digits → digits_value_after whole f.digits % 10 ≢ 0 = λ h. rw f.value_is at last (omega (arith, h, f.places_are)) in
    let size_value : size ≡ digits_value_after whole f.digits * 10 ^ (9 - places) = ap (λ p. kept * p) tens ∙ ap (λ v. v * 10 ^ (9 - places)) f.value_is in
    let apart = units_apart whole (9 - places) size f.digits f.all all ends size_value in
    let front : size / 10 ^ 9 ≡ digits_value a.digits = apart.0 ∙ a.value_is in
    let w : decimal (size / 10 ^ 9) ≡ a.digits = ap decimal front ∙ whole_text a.digits following a.all (omega (arith, a.count_is, many)) (rw a.text at is) (omega (arith, front, small)) in
    sign ∙ ap (λ x. sign_text negative ++ x) (a.text ∙ ap (λ x. a.digits ++ x) f.text) ∙ joined (sign_text negative) a.digits (fraction_text f.digits) rest
    ∙ ap (λ x. x ++ rest) (sym (text_is negative a.digits f.digits size some w apart.1))

-- ---- pairs

pub least_pair_text : (inside further tx ty after following rest : List ℕ) → inside ≡ tx ++ after → after ≡ 44 ∷ further → further ≡ ty ++ following → following ≡ 93 ∷ rest
    → 91 ∷ inside ≡ (91 ∷ (tx ++ (44 ∷ (ty ++ (93 ∷ []))))) ++ rest
least_pair_text inside further tx ty after following rest first comma second close =
    rw (first, comma, second, close) (simp append_assoc)
