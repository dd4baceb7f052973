-- The digits of a fraction, without zeros at their end.
use Rattle.std.specs.Prelude.{ℕ, zero, suc, ◌+◌, ◌/◌, ◌%◌, ◌==◌, List, [], ◌∷◌, ◌++◌, if◌then◌else◌}

-- the last digits of n, as many as `places` says, zeros in front too
abbrev pub fixed : ℕ → ℕ → List ℕ
fixed zero n = []
fixed (suc places) n = fixed places (n / 10) ++ (48 + n % 10) ∷ []

-- a digit before digits that have lost the zeros at their end: a zero goes where nothing is left after it
abbrev pub before_trimmed : ℕ → List ℕ → List ℕ
before_trimmed c [] = if c == 48 then [] else (c ∷ [])
before_trimmed c (d ∷ ds) = c ∷ d ∷ ds

-- the digits without the zeros at their end
abbrev pub trimmed : List ℕ → List ℕ
trimmed [] = []
trimmed (c ∷ cs) = before_trimmed c (trimmed cs)
