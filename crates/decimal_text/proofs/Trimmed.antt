-- Digits without the zeros at their end.
use Rattle.std.proofs.Common.{◌≡◌, ℕ, ◌-◌, ◌<◌, ◌≤◌, ◌==◌, false, List, [], ◌∷◌, ◌++◌, length, take, get_or, refl, ap, arith, ⊎_elim}
use Rattle.std.proofs.lemmas.Bool.Decides.{eqb_tells}
use Rattle.std.proofs.lemmas.List.{take_more}
use Rattle.decimal_text.specs.Laws.{EndsInNoZero}
use Rattle.decimal_text.specs.Units.{trimmed, before_trimmed}

-- a zero at the end goes
pub trimmed-push_zero : (xs : List ℕ) → trimmed (xs ++ 48 ∷ []) ≡ trimmed xs
trimmed-push_zero [] = refl
trimmed-push_zero (c ∷ cs) = ap (before_trimmed c) (trimmed-push_zero cs)

before_some : (c : ℕ) (xs : List ℕ) (d : ℕ) → before_trimmed c (xs ++ d ∷ []) ≡ c ∷ (xs ++ d ∷ [])
before_some c [] d = refl
before_some c (x ∷ xs) d = refl

-- another digit at the end stays, and all before it
pub trimmed-push : (xs : List ℕ) (d : ℕ) → (d == 48) ≡ false → trimmed (xs ++ d ∷ []) ≡ xs ++ d ∷ []
trimmed-push [] d h = rw h refl
trimmed-push (c ∷ cs) d h = rw (trimmed-push cs d h) (before_some c cs d)

pub trimmed-step : (ds : List ℕ) (e : ℕ) → 0 < e → e ≤ length ds → get_or ds (e - 1) 0 ≡ 48
    → trimmed (take (e - 1) ds) ≡ trimmed (take e ds)
trimmed-step ds e pos within h = grind (arith, take_more ds (e - 1) 0 (omega arith), trimmed-push_zero (take (e - 1) ds))

other_digit : (d : ℕ) → (d ≡ 48 → ⊥) → (d == 48) ≡ false
other_digit d h = ⊎_elim (λ t. absurd (h t.1)) (λ f. f.0) (eqb_tells d 48)

pub trimmed-stop : (ds : List ℕ) (e : ℕ) → 0 < e → e ≤ length ds → (get_or ds (e - 1) 0 ≡ 48 → ⊥) → trimmed (take e ds) ≡ take e ds
trimmed-stop ds e pos within h = grind (arith, take_more, trimmed-push (take (e - 1) ds) (get_or ds (e - 1) 0) (other_digit (get_or ds (e - 1) 0) h), other_digit (get_or ds (e - 1) 0) h)

-- nothing is no list with an element at its end
nothing_ends : (prefix : List ℕ) (d : ℕ) → [] ≡ prefix ++ d ∷ [] → ⊥
nothing_ends [] d h = cc
nothing_ends (x ∷ xs) d h = cc

one_ends : (c : ℕ) (prefix : List ℕ) (d : ℕ) → c ∷ [] ≡ prefix ++ d ∷ [] → c ≡ d
one_ends c [] d h = cc
one_ends c (x ∷ xs) d h = let rest : [] ≡ xs ++ d ∷ [] = cc in absurd (nothing_ends xs d rest)

before-end : (c : ℕ) (t : List ℕ) → EndsInNoZero t → EndsInNoZero (before_trimmed c t)
before-end c [] h = grind (arith, nothing_ends, one_ends, eqb_tells)
before-end c (d ∷ ds) h = λ prefix e. longer prefix e
  where
    longer : (prefix : List ℕ) → c ∷ d ∷ ds ≡ prefix ++ 48 ∷ [] → ⊥
    longer [] e = cc
    longer (x ∷ xs) e = let rest : d ∷ ds ≡ xs ++ 48 ∷ [] = cc in h xs rest

-- no zero is left at the end
pub trimmed-end : (ds : List ℕ) → EndsInNoZero (trimmed ds)
trimmed-end [] = λ prefix e. nothing_ends prefix 48 e
trimmed-end (c ∷ cs) = before-end c (trimmed cs) (trimmed-end cs)
