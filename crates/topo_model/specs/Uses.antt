-- Which arcs are used, as a flag for each.
use Rattle.std.specs.Prelude.{ℕ, zero, suc, Bool, List, [], ◌∷◌, if◌then◌else◌}

-- the answers for so many numbers from this one on
abbrev pub answers : {X : Type 0} → (ℕ → X) → ℕ → ℕ → List X
answers f n zero = []
answers f n (suc count) = f n ∷ answers f (suc n) count

-- the elements whose flag is set
abbrev pub chosen : {X : Type 0} → List Bool → List X → List X
chosen [] xs = []
chosen (b ∷ bs) [] = []
chosen (b ∷ bs) (x ∷ xs) = if b then x ∷ chosen bs xs else chosen bs xs
