-- Links, seen as two functions on indexes.
use Rattle.std.specs.Prelude.{◌≡◌, ℕ, ◌<◌, List, [], ◌∷◌}

-- from u on: each is after the one before it, and greater
abbrev pub Chain : (ℕ → ℕ) → (ℕ → ℕ) → ℕ → List ℕ → Type 0
Chain after before u [] = Unit {0}
Chain after before u (v ∷ vs) = (after u ≡ v) × (before v ≡ u) × (u < v) × Chain after before v vs

abbrev pub last_of : ℕ → List ℕ → ℕ
last_of u [] = u
last_of u (v ∷ vs) = last_of v vs
