-- Bytes that are looked for.
use Rattle.std.specs.Prelude.{ℕ, ◌==◌, if◌then◌else◌, List, [], ◌∷◌, Option, Some, None}

-- what follows the first byte that is this one
abbrev pub after_first : ℕ → List ℕ → Option (List ℕ)
after_first byte [] = None
after_first byte (b ∷ bs) = if b == byte then Some bs else after_first byte bs
