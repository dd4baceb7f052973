-- Indexes of a line in their order.
use Rattle.std.specs.Prelude.{◌≡◌, ℕ, ◌-◌, ◌<◌, List, [], ◌∷◌}

-- from this number on each is over the one before it, up to the last
abbrev pub RisesTo : ℕ → ℕ → List ℕ → Type 0
RisesTo last i [] = i ≡ last
RisesTo last i (j ∷ js) = (i < j) × RisesTo last j js

-- these indexes rise from the first to the last one of a line of so many positions
abbrev pub RisesOver : ℕ → List ℕ → Type 0
RisesOver n [] = ⊥
RisesOver n (i ∷ is) = (i ≡ 0) × RisesTo (n - 1) i is
