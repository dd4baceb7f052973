-- Objects that are counted elsewhere, with their names.
use Rattle.std.specs.Prelude.{ℕ, List, [], ◌∷◌, Option, Some, None}
use Rattle.geometry.specs.Lists.{tail}

-- the first of these numbers, or another one
abbrev pub first_or : ℕ → List ℕ → ℕ
first_or other [] = other
first_or other (n ∷ ns) = n

-- each name with its number of these, in the place of the one that it has; there may be fewer
abbrev pub numbered : List ℕ → List (List ℕ × ℕ) → List (List ℕ × ℕ)
numbered ns [] = []
numbered ns (o ∷ os) = (o.0, first_or o.1 ns) ∷ numbered (tail ns) os

-- if there are some
abbrev pub numbered_by : Option (List ℕ) → List (List ℕ × ℕ) → List (List ℕ × ℕ)
numbered_by None os = os
numbered_by (Some ns) os = numbered ns os
