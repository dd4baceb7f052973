-- Steps that the other proofs share: tests, pairs, and what it is to read soundly.
use Rattle.std.proofs.Common.{◌≡◌, ◌≢◌, ℕ, zero, suc, ◌<◌, ◌≤◌, Bool, true, false, eqb, ◌⊎◌, inl, inr, List, ◌++◌, Option, Some, None, refl, sym, ap, subst, ◌∙◌, arith}
use Rattle.std.proofs.lemmas.Bool.{eqb-true, eq-eqb}
use Rattle.std.proofs.lemmas.Bool.Decides.{eqb_tells}
use Rattle.json_reading.specs.declared.fault.Fault.{Fault}
use Rattle.json_reading.specs.Gives.{Fails}
use Rattle.json_value.specs.Reading.{Parse}

pub not_equal : (a b : ℕ) → a ≢ b → eqb a b ≡ false
not_equal a b h = elim (eqb_tells a b) [ inl e ↦ absurd (h e.1) | inr e ↦ e.0 ]

-- A byte that passes a test is none that fails it.
pub differs : (test : ℕ → Bool) (b q : ℕ) → test q ≡ false → test b ≡ true → eqb b q ≡ false
differs test b q other h = grind (arith, eqb_tells b q)

-- what holds of a number holds of an equal one
pub at : (P : ℕ → Type 0) (q b : ℕ) → P q → eqb b q ≡ true → P b
at P q b p h = subst P (sym (eqb-true b q h)) p

pub none_or_some : {A : Type 0} (o : Option A) → (o ≡ None) ⊎ ((x : A) × (o ≡ Some x))
none_or_some None = inl refl
none_or_some (Some x) = inr (x, refl)

-- the parts of a pair that was read
pub pair_is : {A B : Type 0} (a : A) (b : B) (x : A × B) → Some (a, b) ≡ Some x → (a ≡ x.0) × (b ≡ x.1)
pair_is a b x e = let same : ◌≡◌ {A = _ × _} (a, b) x = cc in (ap (λ p. p.0) same, ap (λ p. p.1) same)

-- a turn is left
pub turn : (n m : ℕ) → m < n → (k : ℕ) × (n ≡ suc k) × (m ≤ k)
turn zero m h = absurd (omega arith)
turn (suc k) m h = (k, refl, omega arith)

-- Any fault fits where nothing is read.
pub none_fails : {Y : Type 0} (e : Fault) (read : Option Y) → read ≡ None → Fails e read
none_fails e read h = grind arith

-- A reader takes what R says of it and its value.
abbrev pub IsSound : {A : Type 0} → (List ℕ → A → Type 0) → Parse A → Type 0
IsSound {A} R read = (bs : List ℕ) (x : A × List ℕ) → read bs ≡ Some x → (t : List ℕ) × R t x.0 × (bs ≡ t ++ x.1)

-- A closing byte is no comma.
pub no_comma : (b close : ℕ) → eqb close 44 ≡ false → b ≡ close → b ≢ 44
no_comma b close other h e = let same = eq-eqb close 44 (sym h ∙ e) in cc
