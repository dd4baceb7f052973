-- The parts that a text is read as are those that it spells.
use Rattle.std.proofs.Common.{◌≡◌, ℕ, ◌<◌, ◌==◌, ◌++◌, Bool, true, false, List, [], ◌∷◌, length, Option, Some, None, refl, sym, ap, ◌∙◌, subst, arith, if◌then◌else◌, ⊎_elim}
use Rattle.std.specs.Prelude.{option_and_then, IsSome, is_some}
use Rattle.std.proofs.lemmas.Bool.{eqb-true, true≢false, false≢true, not-true}
use Rattle.std.proofs.lemmas.Bool.Decides.{eqb_tells}
use Rattle.std.proofs.lemmas.List.{append-nil, take-append-drop}
use Rattle.std.proofs.lemmas.Option.{some_pair_parts}
use Rattle.decimal_text.specs.Grammar.{is_e, AllDigits, IsMinus, no_minus, one_minus, IsWhole, whole_zero, whole_digits, IsFraction, no_fraction, fraction as fraction_digits, IsSign, no_sign, plus_sign, minus_sign, IsExponent, no_exponent, exponent as exponent_digits, IsNumber, number_of}
use Rattle.decimal_text.specs.Digits.{leading_digits, after_digits}
use Rattle.decimal_text.specs.Parts.{Parts, parts_of, unsigned_of, exponent_of, signed_digits_of, all_digits_of, fraction_of, is_whole, fraction_text, sign_text, SpellsSign, spells_no_sign, spells_plus, spells_minus, SpellsExponent, spells_no_exponent, spells_exponent, SpellsNumber}
use Rattle.decimal_text.proofs.DigitsValue.{leading_digits-all}
use Rattle.decimal_text.proofs.DigitRuns.{AllDigits-from_All}
use Rattle.decimal_text.proofs.ReadsParts.{parts-read}

prefix-AllDigits : (t : List ℕ) → AllDigits (leading_digits t)
prefix-AllDigits t = AllDigits-from_All (leading_digits t) (leading_digits-all t)

prefix-after : (t : List ℕ) → leading_digits t ++ after_digits t ≡ t
prefix-after t = take-append-drop _ t

empty_from_length : (t : List ℕ) → (length t == 0) ≡ true → t ≡ []
empty_from_length [] h = refl
empty_from_length (c ∷ cs) h = let no : length (c ∷ cs) ≡ 0 = eqb-true (length (c ∷ cs)) 0 h in absurd (omega arith)

some_from_length : (t : List ℕ) → (length t == 0) ≡ false → 0 < length t
some_from_length t h = grind (arith, true≢false)

all_tests : (x y : Bool) (f ds : List ℕ) → if◌then◌else◌ {A = Option (List ℕ)} x None (if y then Some f else None) ≡ Some ds
    → (x ≡ false) × (y ≡ true) × (f ≡ ds)
all_tests x y f ds h = grind arith

-- one digit or more, and nothing else
record IsRun (t ds : List ℕ) : Type 0 where
  pub same : t ≡ ds
  pub digits : AllDigits ds
  pub some : 0 < length ds

all_digits-spelled : (t ds : List ℕ) → all_digits_of t ≡ Some ds → IsRun t ds
all_digits-spelled t ds h =
    let tests = all_tests (length (leading_digits t) == 0) (length (after_digits t) == 0) (leading_digits t) ds h in
    let none : after_digits t ≡ [] = empty_from_length (after_digits t) tests.1 in
    let is : leading_digits t ≡ ds = tests.2 in
    record {
      same = sym (prefix-after t) ∙ ap (λ r. leading_digits t ++ r) none ∙ append-nil (leading_digits t) ∙ is;
      digits = subst AllDigits is (prefix-AllDigits t);
      some = subst (λ d. 0 < length d) is (some_from_length (leading_digits t) tests.0);
    }

option_some : (b : Bool) (o : Option (List ℕ)) (negative : Bool) (ds : List ℕ)
    → option_and_then {U = Bool × List ℕ} (λ r. Some (b, r)) o ≡ Some (negative, ds) → (b ≡ negative) × (o ≡ Some ds)
option_some b o negative ds h = grind (arith, some_pair_parts)

-- a sign or none, and then a run of digits
record IsSignedRun (t : List ℕ) (negative : Bool) (ds : List ℕ) : Type 0 where
  pub sign : List ℕ
  pub same : t ≡ sign ++ ds
  pub spelled : SpellsSign sign negative
  pub run : IsRun ds ds

signed_run : (s : List ℕ) (b : Bool) (rest : List ℕ) (negative : Bool) (ds : List ℕ) → SpellsSign s b
    → option_and_then {U = Bool × List ℕ} (λ r. Some (b, r)) (all_digits_of rest) ≡ Some (negative, ds) → IsSignedRun (s ++ rest) negative ds
signed_run s b rest negative ds sign h = grind (arith, option_some b (all_digits_of rest) negative ds h, all_digits-spelled rest ds (option_some b (all_digits_of rest) negative ds h).1)

minus_case : (c : ℕ) (cs : List ℕ) (negative : Bool) (ds : List ℕ) → (c == 45) ≡ true → signed_digits_of (c ∷ cs) ≡ Some (negative, ds)
    → IsSignedRun (c ∷ cs) negative ds
minus_case c cs negative ds t h = grind (arith, eqb-true c 45 t, signed_run (45 ∷ []) true cs negative ds spells_minus)

plus_case : (c : ℕ) (cs : List ℕ) (negative : Bool) (ds : List ℕ) → (c == 43) ≡ true → signed_digits_of (c ∷ cs) ≡ Some (negative, ds)
    → IsSignedRun (c ∷ cs) negative ds
plus_case c cs negative ds t h = grind (arith, eqb-true c 43 t, signed_run (43 ∷ []) false cs negative ds spells_plus)

none_case : (c : ℕ) (cs : List ℕ) (negative : Bool) (ds : List ℕ) → (c == 45) ≡ false → (c == 43) ≡ false → signed_digits_of (c ∷ cs) ≡ Some (negative, ds)
    → IsSignedRun (c ∷ cs) negative ds
none_case c cs negative ds e f h = signed_run [] false (c ∷ cs) negative ds spells_no_sign (rw (e, f) at h)

signed_digits-spelled : (t : List ℕ) (negative : Bool) (ds : List ℕ) → signed_digits_of t ≡ Some (negative, ds) → IsSignedRun t negative ds
signed_digits-spelled t negative ds h = grind (arith, minus_case, plus_case, none_case, eqb_tells)

exponent-made : (e : ℕ) (s : List ℕ) (negative : Bool) (ds : List ℕ) → is_e e ≡ true → SpellsSign s negative → AllDigits ds → 0 < length ds
    → SpellsExponent (e ∷ s ++ ds) negative ds
exponent-made e s negative [] he hs h some = absurd (omega arith)
exponent-made e s negative (b ∷ bs) he hs h some = spells_exponent e s negative b bs he hs h.0 h.1

e_test : (b : Bool) (o : Option (Bool × List ℕ)) (r : Bool × List ℕ)
    → if◌then◌else◌ {A = Option (Bool × List ℕ)} b o None ≡ Some r → (b ≡ true) × (o ≡ Some r)
e_test b o r h = grind arith

exponent-spelled : (t : List ℕ) (negative : Bool) (ds : List ℕ) → exponent_of t ≡ Some (negative, ds) → SpellsExponent t negative ds
exponent-spelled [] negative ds h =
    let parts = some_pair_parts {A = Bool} {B = List ℕ} false negative [] ds h in
    subst (λ n. SpellsExponent [] n ds) parts.0 (subst (λ d. SpellsExponent [] false d) parts.1 spells_no_exponent)
exponent-spelled (e ∷ rest) negative ds h =
    let tests = e_test (is_e e) (signed_digits_of rest) (negative, ds) h in
    let run = signed_digits-spelled rest negative ds tests.1 in
    rw run.same (exponent-made e run.sign negative ds tests.0 run.spelled run.run.digits run.run.some)

-- a fraction, and what follows it
record IsFractionAnd (t f rest : List ℕ) : Type 0 where
  pub same : t ≡ fraction_text f ++ rest
  pub digits : AllDigits f

fraction_test : (b : Bool) (f a : List ℕ) (g rest : List ℕ) → if◌then◌else◌ {A = Option (List ℕ × List ℕ)} b None (Some (f, a)) ≡ Some (g, rest)
    → (b ≡ false) × (f ≡ g) × (a ≡ rest)
fraction_test b f a g rest h = grind (arith, some_pair_parts)

pub fraction_text-some : (f : List ℕ) → 0 < length f → fraction_text f ≡ 46 ∷ f
fraction_text-some f h = grind arith

fraction-spelled : (t f rest : List ℕ) → fraction_of t ≡ Some (f, rest) → IsFractionAnd t f rest
fraction-spelled t f rest h = grind (arith, some_pair_parts, eqb-true, fraction_test, some_from_length, prefix-after, fraction_text-some, prefix-AllDigits, eqb_tells)

whole-made : (w : List ℕ) → AllDigits w → is_whole w ≡ true → IsWhole w
whole-made [] h t = absurd (false≢true t)
whole-made (c ∷ []) h t = ⊎_elim (λ y. let is : c ≡ 48 = y.1 in rw is whole_zero) (λ n. whole_digits c [] h.0 n.0 tt) (eqb_tells c 48)
whole-made (c ∷ d ∷ ds) h t = whole_digits c (d ∷ ds) h.0 (not-true (c == 48) t) h.1

-- the steps of `unsigned_of` where it gives parts
record UnsignedSteps (negative : Bool) (prefix after : List ℕ) (n : Parts) : Type 0 where
  pub whole : is_whole prefix ≡ true
  pub fraction : List ℕ
  pub rest : List ℕ
  pub fraction_is : fraction_of after ≡ Some (fraction, rest)
  pub exponent_negative : Bool
  pub exponent : List ℕ
  pub exponent_is : exponent_of rest ≡ Some (exponent_negative, exponent)
  pub parts : n ≡ record { negative = negative; whole = prefix; fraction = fraction; exponent_negative = exponent_negative; exponent = exponent }

abbrev joined : Bool → List ℕ → List ℕ → Bool × List ℕ → Option Parts
joined negative prefix f e = Some (record { negative = negative; whole = prefix; fraction = f; exponent_negative = e.0; exponent = e.1 })

abbrev with_exponent : Bool → List ℕ → List ℕ × List ℕ → Option Parts
with_exponent negative prefix f = option_and_then (joined negative prefix f.0) (exponent_of f.1)

exponent_step : (negative : Bool) (prefix after f r : List ℕ) (n : Parts) (o : Option (Bool × List ℕ)) → is_whole prefix ≡ true
    → fraction_of after ≡ Some (f, r) → exponent_of r ≡ o → option_and_then (joined negative prefix f) o ≡ Some n → UnsignedSteps negative prefix after n
exponent_step negative prefix after f r n None w e1 e2 h = absurd cc
exponent_step negative prefix after f r n (Some x) w e1 e2 h = grind arith

whole_step : (negative b : Bool) (prefix after : List ℕ) (n : Parts) → is_whole prefix ≡ b
    → if◌then◌else◌ {A = Option Parts} b (option_and_then (with_exponent negative prefix) (fraction_of after)) None ≡ Some n
    → UnsignedSteps negative prefix after n
whole_step negative b prefix after n h k = grind (arith, exponent_step)

spelled_from_steps : (negative : Bool) (t : List ℕ) (n : Parts) → UnsignedSteps negative (leading_digits t) (after_digits t) n
    → SpellsNumber (sign_text negative ++ t) n
spelled_from_steps negative t n s = grind (arith, fraction-spelled, prefix-after, whole-made, prefix-AllDigits, exponent-spelled)

unsigned-spelled : (negative : Bool) (t : List ℕ) (n : Parts) → unsigned_of negative t ≡ Some n → SpellsNumber (sign_text negative ++ t) n
unsigned-spelled negative t n h = grind (arith, spelled_from_steps, whole_step)

pub parts-spelled : (t : List ℕ) (n : Parts) → parts_of t ≡ Some n → SpellsNumber t n
parts-spelled [] n h = absurd cc
parts-spelled (c ∷ cs) n h = ⊎_elim (λ y. let is : c ≡ 45 = y.1 in rw is (unsigned-spelled true cs n (rw is at h)))
    (λ m. let no : (c == 45) ≡ false = m.0 in unsigned-spelled false (c ∷ cs) n (rw no at h)) (eqb_tells c 45)

-- the parts that the grammar's texts spell
record MinusOf (m : List ℕ) : Type 0 where
  pub negative : Bool
  pub same : m ≡ sign_text negative

minus-of : (m : List ℕ) → IsMinus m → MinusOf m
minus-of m h = grind arith

record FractionOf (f : List ℕ) : Type 0 where
  pub digits : List ℕ
  pub same : f ≡ fraction_text digits
  pub all : AllDigits digits

fraction-of : (f : List ℕ) → IsFraction f → FractionOf f
fraction-of f no_fraction = record { digits = []; same = refl; all = tt }
fraction-of f (fraction_digits b bs hb h) = record { digits = b ∷ bs; same = refl; all = (hb, h) }

sign-of : (s : List ℕ) → IsSign s → (negative : Bool) × SpellsSign s negative
sign-of s no_sign = (false, spells_no_sign)
sign-of s plus_sign = (false, spells_plus)
sign-of s minus_sign = (true, spells_minus)

exponent-of : (e : List ℕ) → IsExponent e → (negative : Bool) × (ds : List ℕ) × SpellsExponent e negative ds
exponent-of e no_exponent = (false, [], spells_no_exponent)
exponent-of e (exponent_digits x s b bs hx hs hb h) =
    let sign = sign-of s hs in
    (sign.0, b ∷ bs, spells_exponent x s sign.0 b bs hx sign.1 hb h)

pub number-spelled : (t : List ℕ) → IsNumber t → (n : Parts) × SpellsNumber t n
number-spelled t (number_of m w f e hm hw hf he) =
    let minus = minus-of m hm in
    let frac = fraction-of f hf in
    let exp = exponent-of e he in (
      record { negative = minus.negative; whole = w; fraction = frac.digits; exponent_negative = exp.0; exponent = exp.1 },
      record {
        exponent_text = e;
        text = ap (λ x. x ++ (w ++ (f ++ e))) minus.same ∙ ap (λ y. sign_text minus.negative ++ (w ++ (y ++ e))) frac.same;
        whole = hw;
        fraction = frac.all;
        exponent = exp.2;
      },
    )

pub sign-minus : (negative : Bool) → IsMinus (sign_text negative)
sign-minus true = one_minus
sign-minus false = no_minus

pub fraction-grammar : (f : List ℕ) → AllDigits f → IsFraction (fraction_text f)
fraction-grammar [] h = no_fraction
fraction-grammar (b ∷ bs) h = fraction_digits b bs h.0 h.1

sign-grammar : (s : List ℕ) (negative : Bool) → SpellsSign s negative → IsSign s
sign-grammar s negative spells_no_sign = no_sign
sign-grammar s negative spells_plus = plus_sign
sign-grammar s negative spells_minus = minus_sign

exponent-grammar : (e : List ℕ) (negative : Bool) (ds : List ℕ) → SpellsExponent e negative ds → IsExponent e
exponent-grammar e negative ds spells_no_exponent = no_exponent
exponent-grammar e negative ds (spells_exponent x s n b bs hx hs hb h) = exponent_digits x s b bs hx (sign-grammar s n hs) hb h

pub spelled-number : (t : List ℕ) (n : Parts) → SpellsNumber t n → IsNumber t
spelled-number t n s = subst IsNumber (sym s.text) (number_of (sign_text n.negative) n.whole (fraction_text n.fraction) s.exponent_text
    (sign-minus n.negative) s.whole (fraction-grammar n.fraction s.fraction) (exponent-grammar s.exponent_text n.exponent_negative n.exponent s.exponent))

-- a text has parts exactly where it is a number
pub number-parts : (t : List ℕ) → IsNumber t → IsSome (parts_of t)
number-parts t h = let s = number-spelled t h in rw (parts-read t s.0 s.1) refl

some_parts : (o : Option Parts) → IsSome o → (n : Parts) × (o ≡ Some n)
some_parts o h = grind (arith, false≢true)

pub parts-number : (t : List ℕ) → IsSome (parts_of t) → IsNumber t
parts-number t h = let p = some_parts (parts_of t) h in spelled-number t p.0 (parts-spelled t p.0 p.1)

pub number-from_parts : (s t : List ℕ) (n : Parts) → s ≡ t → parts_of s ≡ Some n → IsNumber t
number-from_parts s t n e h = subst IsNumber e (spelled-number s n (parts-spelled s n h))

pub no_number-from_parts : (s t : List ℕ) → s ≡ t → parts_of s ≡ None → IsNumber t → ⊥
no_number-from_parts s t e h number = false≢true (ap is_some (sym h ∙ ap parts_of e) ∙ number-parts t number)
