-- Which elements a list has.
use Rattle.std.proofs.Common.{◌≡◌, Bool, true, false, ◌||◌, List, [], ◌∷◌, ◌++◌, ◌⊎◌, inl, inr, refl, ap, sym, ◌∙◌}
use Rattle.std.proofs.lemmas.Bool.{or_left, or_right}
use Rattle.std.specs.List.{list_any}
use Rattle.owned_values.specs.Lists.{In}

pub in_left : {X : Type 0} (x : X) (xs ys : List X) → In x xs → In x (xs ++ ys)
in_left x [] ys k = elim k [ ]
in_left x (y ∷ xs) ys (inl e) = inl e
in_left x (y ∷ xs) ys (inr k) = inr (in_left x xs ys k)

pub in_right : {X : Type 0} (x : X) (xs ys : List X) → In x ys → In x (xs ++ ys)
in_right x [] ys k = k
in_right x (y ∷ xs) ys k = inr (in_right x xs ys k)

pub in_append : {X : Type 0} (x : X) (xs ys : List X) → In x (xs ++ ys) → In x xs ⊎ In x ys
in_append x [] ys k = inr k
in_append x (y ∷ xs) ys (inl e) = inl (inl e)
in_append x (y ∷ xs) ys (inr k) = elim (in_append x xs ys k) [ inl h ↦ inl (inr h) | inr h ↦ inr h ]

-- one of them passes a test, and so there is one that does
pub any_from_in : {X : Type 0} (t : X → Bool) (x : X) (xs : List X) → In x xs → t x ≡ true → list_any t xs ≡ true
any_from_in t x [] k h = elim k [ ]
any_from_in t x (y ∷ ys) (inl e) h = or_left (t y) (list_any t ys) (sym (ap t e) ∙ h)
any_from_in t x (y ∷ ys) (inr k) h = or_right (t y) (list_any t ys) (any_from_in t x ys k h)

pub in_from_any : {X : Type 0} (t : X → Bool) (xs : List X) → list_any t xs ≡ true → (x : X) × In x xs × (t x ≡ true)
in_from_any t [] h = cc
in_from_any {X = X} t (y ∷ ys) h = on (t y) refl (λ k. in_from_any t ys k)
  where
    on : (b : Bool) → t y ≡ b → (list_any t ys ≡ true → (x : X) × In x ys × (t x ≡ true)) → (x : X) × In x (y ∷ ys) × (t x ≡ true)
    on true e ih = (y, inl refl, e)
    on false e ih = let k = ih (ap (λ b. b || list_any t ys) (sym e) ∙ h) in (k.0, inr k.1, k.2)
