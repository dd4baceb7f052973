-- What is read as a number is a number.
use Rattle.std.proofs.Common.{◌≡◌, ◌≢◌, ℕ, ◌-◌, ◌≤◌, Bool, true, false, eqb, inl, inr, List, [], ◌∷◌, ◌++◌, length, take, Some, None, refl, sym, ap, subst, ◌∙◌, append_assoc, length-append, arith}
use Rattle.std.proofs.lemmas.Bool.{eqb-true, or_cases}
use Rattle.std.proofs.lemmas.Option.{option_and_then_some}
use Rattle.std.proofs.Math.Seq.{take-append_seam}
use Rattle.owned_values.proofs.Tests.{chosen}
use Rattle.decimal_text.specs.Grammar.{is_digit, AllDigits, IsMinus, no_minus, one_minus, IsWhole, whole_zero, whole_digits, IsFraction, no_fraction, fraction, IsSign, no_sign, plus_sign, minus_sign, is_e, IsExponent, no_exponent, exponent, IsNumber, number_of}
use Rattle.json_value.specs.Reading.{after_digits, after_some_digits, after_minus, after_whole, after_fraction, after_sign, after_exponent, after_number, number_at}
use Rattle.json_reading.proofs.Steps.{not_equal, pair_is, IsSound, at}

-- ---- what is read is a number

digits_takes : (bs : List ℕ) → (t : List ℕ) × AllDigits t × (bs ≡ t ++ after_digits bs)
unfolding after_digits
digits_takes [] = ([], tt, refl)
digits_takes (b ∷ bs) = elim (chosen (is_digit b) (after_digits bs) (b ∷ bs) _ refl) [
  | inl h ↦ (let r = digits_takes bs in (b ∷ r.0, (h.0, r.1), ap (λ xs. b ∷ xs) r.2 ∙ ap (λ xs. b ∷ (r.0 ++ xs)) h.1))
  | inr h ↦ ([], tt, h.1)
]

abbrev SomeDigits : List ℕ → List ℕ → Type 0
SomeDigits bs rest = (b : ℕ) × (t : List ℕ) × (is_digit b ≡ true) × AllDigits t × (bs ≡ b ∷ (t ++ rest))

some_takes : (bs rest : List ℕ) → after_some_digits bs ≡ Some rest → SomeDigits bs rest
unfolding after_some_digits
some_takes [] rest e = cc
some_takes (b ∷ bs) rest e = grind (arith, digits_takes bs)

abbrev Part : (List ℕ → Type 0) → List ℕ → List ℕ → Type 0
Part R bs rest = (t : List ℕ) × R t × (bs ≡ t ++ rest)

minus_takes : (bs : List ℕ) → Part IsMinus bs (after_minus bs)
unfolding after_minus
minus_takes [] = ([], no_minus, refl)
minus_takes (b ∷ bs) = elim (chosen (eqb b 45) bs (b ∷ bs) _ refl) [
  | inl h ↦ (45 ∷ [], one_minus, ap (λ c. c ∷ bs) (eqb-true b 45 h.0) ∙ ap (λ xs. 45 ∷ xs) h.1)
  | inr h ↦ ([], no_minus, h.1)
]

whole_takes : (bs rest : List ℕ) → after_whole bs ≡ Some rest → Part IsWhole bs rest
unfolding after_whole
whole_takes [] rest e = cc
whole_takes (b ∷ bs) rest e = elim (chosen (eqb b 48) (Some bs) (after_some_digits (b ∷ bs)) _ e) [
  | inl h ↦ (let same : bs ≡ rest = (let f = h.1 in cc) in (48 ∷ [], whole_zero, ap (λ c. c ∷ bs) (eqb-true b 48 h.0) ∙ ap (λ xs. 48 ∷ xs) same))
  | inr h ↦ (let r = some_takes (b ∷ bs) rest h.1 in let same : b ≡ r.0 = (let f = r.4 in cc) in
      (r.0 ∷ r.1, whole_digits r.0 r.1 r.2 (subst (λ c. eqb c 48 ≡ false) same h.0) r.3, r.4))
]

fraction_takes : (bs rest : List ℕ) → after_fraction bs ≡ Some rest → Part IsFraction bs rest
unfolding after_fraction
fraction_takes [] rest e = ([], no_fraction, cc)
fraction_takes (b ∷ bs) rest e = elim (chosen (eqb b 46) (after_some_digits bs) (Some (b ∷ bs)) _ e) [
  | inl h ↦ (let r = some_takes bs rest h.1 in (46 ∷ r.0 ∷ r.1, fraction r.0 r.1 r.2 r.3, ap (λ c. c ∷ bs) (eqb-true b 46 h.0) ∙ ap (λ xs. 46 ∷ xs) r.4))
  | inr h ↦ (let f = h.1 in ([], no_fraction, cc))
]

sign_by : (b : ℕ) (bs : List ℕ) (p q : Bool) → eqb b 43 ≡ p → eqb b 45 ≡ q → Part IsSign (b ∷ bs) (after_sign (b ∷ bs))
unfolding after_sign
sign_by b bs true q e f = (43 ∷ [], plus_sign, rw (eqb-true b 43 e) refl)
sign_by b bs false true e f = (45 ∷ [], minus_sign, rw (eqb-true b 45 f) refl)
sign_by b bs false false e f = ([], no_sign, rw (e, f) refl)

sign_takes : (bs : List ℕ) → Part IsSign bs (after_sign bs)
unfolding after_sign
sign_takes [] = ([], no_sign, refl)
sign_takes (b ∷ bs) = sign_by b bs (eqb b 43) (eqb b 45) refl refl

exponent_joined : (e : ℕ) (bs s xs : List ℕ) (b : ℕ) (t rest : List ℕ) → bs ≡ s ++ xs → xs ≡ b ∷ (t ++ rest) → e ∷ bs ≡ (e ∷ s ++ b ∷ t) ++ rest
exponent_joined e bs s xs b t rest p q = rw (p, q) (ap (λ z. e ∷ z) (sym (append_assoc s (b ∷ t) rest)))

exponent_takes : (bs rest : List ℕ) → after_exponent bs ≡ Some rest → Part IsExponent bs rest
unfolding after_exponent
exponent_takes [] rest e = ([], no_exponent, cc)
exponent_takes (b ∷ bs) rest e = elim (chosen (is_e b) (after_some_digits (after_sign bs)) (Some (b ∷ bs)) _ e) [
  | inl h ↦ (let s = sign_takes bs in let r = some_takes (after_sign bs) rest h.1 in
      (b ∷ s.0 ++ r.0 ∷ r.1, exponent b s.0 r.0 r.1 h.0 s.1 r.2 r.3, exponent_joined b bs s.0 (after_sign bs) r.0 r.1 rest s.2 r.4))
  | inr h ↦ (let f = h.1 in ([], no_exponent, cc))
]

number_joined : (m w f e bs xs ys zs rest : List ℕ) → bs ≡ m ++ xs → xs ≡ w ++ ys → ys ≡ f ++ zs → zs ≡ e ++ rest → bs ≡ (m ++ (w ++ (f ++ e))) ++ rest
number_joined m w f e bs xs ys zs rest p q r s = rw (p, q, r, s, append_assoc, append_assoc, append_assoc) refl

after_takes : (bs rest : List ℕ) → after_number bs ≡ Some rest → Part IsNumber bs rest
after_takes bs rest e = unfold after_number in option_and_then_some _ _ _ e (λ xs p q. option_and_then_some _ _ _ q (λ ys r s.
    let m = minus_takes bs in
    let w = whole_takes (after_minus bs) xs p in
    let f = fraction_takes xs ys r in
    let x = exponent_takes ys rest s in
    (m.0 ++ (w.0 ++ (f.0 ++ x.0)), number_of m.0 w.0 f.0 x.0 m.1 w.1 f.1 x.1, number_joined m.0 w.0 f.0 x.0 bs (after_minus bs) xs ys rest m.2 w.2 f.2 x.2)))

pub cut : (t rest bs : List ℕ) → bs ≡ t ++ rest → take (length bs - length rest) bs ≡ t
cut t rest bs e = grind (arith, length-append t rest, take-append_seam t rest)

pub number_takes : IsSound (λ t v. IsNumber t × (t ≡ v)) number_at
number_takes bs x e = unfold number_at in grind (arith, option_and_then_some, after_takes, pair_is, cut)

pub e_is : (P : ℕ → Type 0) → P 101 → P 69 → (b : ℕ) → is_e b ≡ true → P b
e_is P p q b h = elim (or_cases _ _ h) [ inl x ↦ at P 101 b p x | inr x ↦ at P 69 b q x ]

-- ---- what the code asks

pub whole_none : (bs : List ℕ) → bs ≡ [] → after_whole bs ≡ None
whole_none bs h = unfold after_whole in rw h refl

pub whole_by_zero : (b : ℕ) (bs rest : List ℕ) → bs ≡ b ∷ rest → b ≡ 48 → after_whole bs ≡ Some rest
whole_by_zero b bs rest h e = unfold after_whole in rw (h, e) refl

pub whole_by_digits : (b : ℕ) (bs rest : List ℕ) → bs ≡ b ∷ rest → b ≢ 48 → after_whole bs ≡ after_some_digits bs
whole_by_digits b bs rest h other = unfold after_whole in rw (h, not_equal b 48 other) refl

pub shorter : (bs rest : List ℕ) → after_number bs ≡ Some rest → length rest ≤ length bs
shorter bs rest h = let r = after_takes bs rest h in let l = ap length r.2 in omega (arith, l, length-append r.0 rest)

pub prefix_number : (bs rest : List ℕ) → after_number bs ≡ Some rest → IsNumber (take (length bs - length rest) bs)
prefix_number bs rest h = let r = after_takes bs rest h in rw (cut r.0 rest bs r.2) r.1
