-- The arcs that arc indexes name, and flags that are set for numbers that pass.
use Rattle.std.specs.Prelude.{ℕ, suc, ◌==◌, ℤ, Bool, ◌||◌, List, [], ◌∷◌}
use Rattle.std.specs.List.{list_any}
use Rattle.geometry.specs.Joins.{number_of}

-- one of the indexes names the arc of this number
abbrev pub names_arc : List ℤ → ℕ → Bool
names_arc refs i = list_any (λ r. number_of r == i) refs

-- the flags of the numbers from this one on, set too where the number passes
abbrev pub also_set : (ℕ → Bool) → ℕ → List Bool → List Bool
also_set passes n [] = []
also_set passes n (b ∷ bs) = (b || passes n) ∷ also_set passes (suc n) bs
