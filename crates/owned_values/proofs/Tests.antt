-- What tests and choices decide.
use Rattle.std.proofs.Common.{◌≡◌, ◌≢◌, ℕ, Bool, true, false, cond, if◌then◌else◌, bytes_eq, List, ◌⊎◌, inl, inr, refl}
use Rattle.std.proofs.lemmas.Slice.Eq.{bytes_eq-Decides}

pub chosen : {A : Type 0} (b : Bool) (x y z : A) → cond b x y ≡ z → ((b ≡ true) × (x ≡ z)) ⊎ ((b ≡ false) × (y ≡ z))
chosen true x y z e = inl (refl, e)
chosen false x y z e = inr (refl, e)

-- what is made of the one that is chosen
pub chosen_of : {A B : Type 0} (f : A → B) (b : Bool) (x y : A) → (if b then f x else f y) ≡ f (if b then x else y)
chosen_of f true x y = refl
chosen_of f false x y = refl

-- what holds of both holds of the one that is chosen
pub holds_of_chosen : {A : Type 0} (P : A → Type 0) (b : Bool) (x y : A) → P x → P y → P (if b then x else y)
holds_of_chosen P true x y p q = p
holds_of_chosen P false x y p q = q

pub bytes_differ : (xs ys : List ℕ) → bytes_eq xs ys ≡ false → xs ≢ ys
bytes_differ xs ys h e = let k : bytes_eq xs ys ≡ true = (bytes_eq-Decides xs ys).1 e in absurd cc
