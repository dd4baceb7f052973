-- A text of units is a number, which scales to the units again.
use Rattle.std.proofs.Common.{◌≡◌, ℕ, ◌+◌, ◌-◌, ◌*◌, ◌/◌, ◌%◌, ◌^◌, ◌<◌, ◌≤◌, suc, zero, Bool, true, false, List, [], ◌∷◌, ◌++◌, length, get_or, All, Ok, Some, decimal, refl, sym, ap, ◌∙◌, arith, ⊎_elim, length-append, add-zero, ℤ, pos, int_lt, unsigned_abs, subst}
use Rattle.std.proofs.Math.Nat.{pow-suc, one-le-pow, zero-mul, mul-le-mul_left}
use Rattle.std.proofs.lemmas.Bool.Decides.{nat_tests, eqb_tells}
use Rattle.std.proofs.lemmas.Fmt.{decimal_by_steps_wide}
use Rattle.std.proofs.lemmas.List.{append-nil, append_assoc}
use Rattle.std.proofs.lemmas.List.Elements.{All-head, All-tail, All-cons, All-append}
use Rattle.std.proofs.lemmas.Bool.{ne_eqb}
use Rattle.decimal_text.specs.Grammar.{IsWhole, whole_zero, whole_digits, IsNumber}
use Rattle.decimal_text.specs.Digits.{IsDigit, digits_value}
use Rattle.decimal_text.specs.Parts.{Parts, parts_of, sign_text, fraction_text, SpellsNumber, spells_no_exponent}
use Rattle.decimal_text.specs.Rounding.{signed, rounded_of}
use Rattle.decimal_text.specs.Scaling.{denominator, scaled_of, scaled_parts, units_text}
use Rattle.decimal_text.specs.Units.{fixed, trimmed, before_trimmed}
use Rattle.decimal_text.specs.Laws.{ReadsAgain, EndsInNoZero}
use Rattle.decimal_text.proofs.Trimmed.{trimmed-end}
use Rattle.decimal_text.proofs.DigitsValue.{digits_value_after-append, digits_value_after-split, digits_value-cut}
use Rattle.decimal_text.proofs.DigitRuns.{digit_true, AllDigits-from_All}
use Rattle.decimal_text.proofs.Nearest.{rounded_of-whole}
use Rattle.decimal_text.proofs.ReadsParts.{parts-read}
use Rattle.decimal_text.proofs.SpellsParts.{spelled-number}

no_elements : All IsDigit []
no_elements = λ k d l. absurd (omega arith)

one_digit : (c : ℕ) → 48 ≤ c → c ≤ 57 → All IsDigit (c ∷ [])
one_digit c low high = All-cons IsDigit c [] (low, high) no_elements

-- digits that write n with no zero in front
pub record IsText (n : ℕ) (ds : List ℕ) : Type 0 where
  pub says : digits_value ds ≡ n
  pub digits : All IsDigit ds
  pub some : 0 < length ds
  pub head : 0 < n → 48 < get_or ds 0 0
  pub whole : IsWhole ds

whole-push : (ds : List ℕ) (x : ℕ) → All IsDigit ds → (48 ≤ x) × (x ≤ 57) → 0 < length ds → 48 < get_or ds 0 0 → IsWhole (ds ++ x ∷ [])
whole-push [] x h b some head = absurd (omega arith)
whole-push (c ∷ cs) x h b some head =
    let first : (48 ≤ c) × (c ≤ 57) = All-head IsDigit c cs h in
    let rest = All-append IsDigit cs (x ∷ []) (All-tail IsDigit c cs h) (one_digit x b.0 b.1) in
    whole_digits c (cs ++ x ∷ []) (digit_true c first.0 first.1) (ne_eqb c 48 (λ e. omega arith)) (AllDigits-from_All (cs ++ x ∷ []) rest)

head-push : (ds : List ℕ) (x : ℕ) → 0 < length ds → get_or (ds ++ x ∷ []) 0 0 ≡ get_or ds 0 0
head-push [] x some = absurd (omega arith)
head-push (c ∷ cs) x some = refl

whole-one : (n : ℕ) → n < 10 → IsWhole ((48 + n) ∷ [])
whole-one zero h = whole_zero
whole-one (suc n) h = whole_digits (48 + suc n) [] (digit_true (48 + suc n) (omega arith) (omega arith)) (ne_eqb (48 + suc n) 48 (λ e. omega arith)) tt

text-one : (n : ℕ) → n < 10 → IsText n ((48 + n) ∷ [])
text-one n h = grind (arith, one_digit, whole-one)

text-more : (n : ℕ) (ds : List ℕ) → 10 ≤ n → IsText (n / 10) ds → IsText n (ds ++ ((48 + n % 10) ∷ []))
text-more n ds h t =
    let x : ℕ = 48 + n % 10 in
    let push : digits_value (ds ++ x ∷ []) ≡ 10 * digits_value ds + (x - 48) = digits_value_after-append 0 ds (x ∷ []) in
    let prefix : 48 < get_or ds 0 0 = t.head (omega arith) in
    record {
      says = omega (arith, push, t.says);
      digits = All-append IsDigit ds (x ∷ []) t.digits (one_digit x (omega arith) (omega arith));
      some = omega (arith, length-append ds (x ∷ []));
      head = λ p. rw (head-push ds x t.some) prefix;
      whole = whole-push ds x t.digits (omega arith, omega arith) t.some prefix;
    }

pub decimal-text : (n : ℕ) → n < 10 ^ 64 → IsText n (decimal n)
decimal-text n h = decimal_by_steps_wide IsText text-one text-more n h

-- exactly p digits that write n
pub record IsFixed (p n : ℕ) (ds : List ℕ) : Type 0 where
  pub says : digits_value ds ≡ n
  pub digits : All IsDigit ds
  pub len : length ds ≡ p

pub fixed-text : (p n : ℕ) → n < 10 ^ p → IsFixed p n (fixed p n)
fixed-text zero n h = record { says = omega arith; digits = no_elements; len = refl }
fixed-text (suc q) n h =
    let e : 10 ^ suc q ≡ 10 ^ q * 10 = pow-suc 10 q in
    let t : IsFixed q (n / 10) (fixed q (n / 10)) = fixed-text q (n / 10) (omega arith) in
    let push : digits_value (fixed q (n / 10) ++ (48 + n % 10) ∷ []) ≡ 10 * digits_value (fixed q (n / 10)) + ((48 + n % 10) - 48) =
    digits_value_after-append 0 (fixed q (n / 10)) ((48 + n % 10) ∷ []) in
    record {
      says = omega (arith, push, t.says);
      digits = All-append IsDigit (fixed q (n / 10)) ((48 + n % 10) ∷ []) t.digits (one_digit (48 + n % 10) (omega arith) (omega arith));
      len = omega (arith, length-append (fixed q (n / 10)) ((48 + n % 10) ∷ []), t.len);
    }

scale : (v d a vc b vt w : ℕ) → v ≡ d * a + vc → w ≡ d * b + vt → vc * b ≡ vt * a → v * (b * 10) ≡ w * (a * 10)
scale v d a vc b vt w e1 e2 e3 = rw (e1, e2) (omega arith)

-- zeros at the end change the value by a power of ten
before-value : (c : ℕ) (cs t : List ℕ) → 48 ≤ c → digits_value cs * 10 ^ length t ≡ digits_value t * 10 ^ length cs
    → digits_value (c ∷ cs) * 10 ^ length (before_trimmed c t) ≡ digits_value (before_trimmed c t) * 10 ^ length (c ∷ cs)
before-value c cs [] low e =
    let one = digits_value_after-split (10 * 0 + (c - 48)) cs in
    let step : 10 ^ suc (length cs) ≡ 10 ^ length cs * 10 = pow-suc 10 (length cs) in
    ⊎_elim (λ y.
    let is : c ≡ 48 = y.1 in
    let none : 10 * 0 + (c - 48) ≡ 0 = omega arith in
    let gone : (10 * 0 + (c - 48)) * 10 ^ length cs ≡ 0 = ap (λ n. n * 10 ^ length cs) none ∙ zero-mul (10 ^ length cs) in
    rw y.0 (omega (arith, one))) (λ n. rw n.0 (rw step (omega (arith, one)))) (eqb_tells c 48)
before-value c cs (x ∷ xs) low e = grind (arith, digits_value_after-split, pow-suc, scale)

pub trimmed-value : (ds : List ℕ) → All IsDigit ds → digits_value ds * 10 ^ length (trimmed ds) ≡ digits_value (trimmed ds) * 10 ^ length ds
trimmed-value [] h = refl
trimmed-value (c ∷ cs) h = grind (arith, before-value, All-head, All-tail, trimmed-value cs (All-tail IsDigit c cs h))

before-digits : (c : ℕ) (t : List ℕ) → (48 ≤ c) × (c ≤ 57) → All IsDigit t → All IsDigit (before_trimmed c t)
before-digits c [] b h = grind (arith, no_elements, one_digit, eqb_tells)
before-digits c (x ∷ xs) b h = All-cons IsDigit c (x ∷ xs) b h

pub trimmed-digits : (ds : List ℕ) → All IsDigit ds → All IsDigit (trimmed ds)
trimmed-digits [] h = no_elements
trimmed-digits (c ∷ cs) h = grind (arith, before-digits, All-head, All-tail, trimmed-digits cs (All-tail IsDigit c cs h))

-- the value of the digits before and after the point
pub units-value : (size places : ℕ) → size < 10 ^ 64
    → digits_value (decimal (size / 10 ^ places) ++ trimmed (fixed places (size % 10 ^ places))) * 10 ^ places
    ≡ size * 10 ^ length (trimmed (fixed places (size % 10 ^ places)))
units-value size places small =
    let p : ℕ = 10 ^ places in
    let q : ℕ = size / p in
    let r : ℕ = size % p in
    let ds : List ℕ = fixed places r in
    let t : List ℕ = trimmed ds in
    let l : ℕ = 10 ^ length t in
    let pos : 1 ≤ p = one-le-pow places 10 (omega arith) in
    let sizes : size ≡ p * q + r = omega arith in
    let least : q * 1 ≤ q * p = mul-le-mul_left q pos in
    let w : IsText q (decimal q) = decimal-text q (omega arith) in
    let f : IsFixed places r ds = fixed-text places r (omega arith) in
    let cut : digits_value (decimal q ++ t) ≡ q * l + digits_value t = digits_value-cut (decimal q) t ∙ ap (λ v. v * l + digits_value t) w.says in
    let one : digits_value (decimal q ++ t) * p ≡ (q * l + digits_value t) * p = ap (λ v. v * p) cut in
    let two : size * l ≡ (p * q + r) * l = ap (λ s. s * l) sizes in
    let left : digits_value ds * l ≡ r * l = ap (λ v. v * l) f.says in
    let right : digits_value t * 10 ^ length ds ≡ digits_value t * p = ap (λ n. digits_value t * 10 ^ n) f.len in
    let three : digits_value t * p ≡ r * l = sym right ∙ sym (trimmed-value ds f.digits) ∙ left in
    omega (arith, one, two, three)

-- the text of units of this sign and size
abbrev text_of : Bool → ℕ → ℕ → List ℕ
text_of negative size places =
    (sign_text negative ++ decimal (size / 10 ^ places)) ++ fraction_text (trimmed (fixed places (size % 10 ^ places)))

-- its parts
abbrev parts_in_text : Bool → ℕ → ℕ → Parts
parts_in_text negative size places = record {
  negative = negative;
  whole = decimal (size / 10 ^ places);
  fraction = trimmed (fixed places (size % 10 ^ places));
  exponent_negative = false;
  exponent = [];
}

text-spells : (negative : Bool) (size places : ℕ) → size < 10 ^ 64 → SpellsNumber (text_of negative size places) (parts_in_text negative size places)
text-spells negative size places small =
    let p : ℕ = 10 ^ places in
    let t : List ℕ = trimmed (fixed places (size % p)) in
    let pos : 1 ≤ p = one-le-pow places 10 (omega arith) in
    let least : (size / p) * 1 ≤ (size / p) * p = mul-le-mul_left (size / p) pos in
    let sizes : size ≡ p * (size / p) + size % p = omega arith in
    let w : IsText (size / p) (decimal (size / p)) = decimal-text (size / p) (omega arith) in
    let f : IsFixed places (size % p) (fixed places (size % p)) = fixed-text places (size % p) (omega arith) in
    record {
      exponent_text = [];
      text = append_assoc (sign_text negative) (decimal (size / p)) (fraction_text t)
          ∙ ap (λ r. sign_text negative ++ (decimal (size / p) ++ r)) (sym (append-nil (fraction_text t)));
      whole = w.whole;
      fraction = AllDigits-from_All t (trimmed-digits (fixed places (size % p)) f.digits);
      exponent = spells_no_exponent;
    }

signed-same : (u : ℤ) → signed (int_lt u (pos 0)) (unsigned_abs u) ≡ u
signed-same u = grind (arith, int_lt, nat_tests)

pub units_text-number : (u : ℤ) (places : ℕ) → unsigned_abs u < 10 ^ 64 → IsNumber (units_text u places)
units_text-number u places small = unfold units_text in spelled-number _ _ (text-spells (int_lt u (pos 0)) (unsigned_abs u) places small)

pub scaled_of-units : (u : ℤ) (places limit : ℕ) → unsigned_abs u < 10 ^ 64 → unsigned_abs u ≤ limit
    → scaled_of places limit (units_text u places) ≡ Ok (record { value = u; exact = true })
scaled_of-units u places limit small within = unfold scaled_of units_text in
    let negative : Bool = int_lt u (pos 0) in
    let size : ℕ = unsigned_abs u in
    let n : Parts = parts_in_text negative size places in
    let read : parts_of (text_of negative size places) ≡ Some n = parts-read _ _ (text-spells negative size places small) in
    let some : 0 < denominator n = one-le-pow (length n.fraction + 0) 10 (omega arith) in
    ap (scaled_parts places limit) read
    ∙ ap (λ num. rounded_of negative num (denominator n) limit) (rw (add-zero, add-zero) (units-value size places small))
    ∙ rounded_of-whole negative (denominator n) size limit some within
    ∙ ap (λ v. Ok (record { value = v; exact = true })) (signed-same u)

units_text-least : (u : ℤ) (places : ℕ) (n : Parts) → unsigned_abs u < 10 ^ 64 → SpellsNumber (units_text u places) n
    → (n.exponent ≡ []) × EndsInNoZero n.fraction
units_text-least u places n small s = unfold units_text in
    let m : Parts = parts_in_text (int_lt u (pos 0)) (unsigned_abs u) places in
    let same : m ≡ n = (cc (sym (parts-read _ m (text-spells (int_lt u (pos 0)) (unsigned_abs u) places small)) ∙ parts-read _ n s)) in
    subst (λ p. (p.exponent ≡ []) × EndsInNoZero p.fraction) same (refl, trimmed-end (fixed places (unsigned_abs u % 10 ^ places)))

pub reads-again : (u : ℤ) (places : ℕ) → unsigned_abs u < 10 ^ 64 → ReadsAgain u places
reads-again u places small = search (units_text-number, scaled_of-units, units_text-least)
