-- What may stand after a value: nothing, white space, a comma or a closing bracket.
use Rattle.std.proofs.Common.{◌≡◌, ℕ, Bool, true, List, [], ◌∷◌, ◌++◌, refl, arith}
use Rattle.std.specs.Prelude.{◌||◌, ◌==◌}
use Rattle.std.proofs.lemmas.Bool.{or_cases}
use Rattle.json_value.specs.Grammar.{is_space, IsSpace}
use Rattle.json_reading.proofs.Steps.{at}

abbrev pub is_end : ℕ → Bool
is_end b = is_space b || (b == 44 || (b == 93 || b == 125))

abbrev pub Ends : List ℕ → Type 0
Ends [] = Unit {0}
Ends (b ∷ bs) = is_end b ≡ true

pub Ends-space : (u : List ℕ) (b : ℕ) (bs : List ℕ) → IsSpace u → is_end b ≡ true → Ends (u ++ (b ∷ bs))
Ends-space [] b bs h e = e
Ends-space (c ∷ u) b bs h e = rw h.0 refl

pub Ends-only : (u : List ℕ) → IsSpace u → Ends u
Ends-only u h = grind arith

-- what holds of each white space byte
pub space_is : (P : ℕ → Type 0) → P 32 → P 9 → P 10 → P 13 → (b : ℕ) → is_space b ≡ true → P b
space_is P a c d e b h = grind (arith, or_cases, at P 32 b a, at P 9 b c, at P 10 b d)

-- what holds of each byte that may stand after a value
pub end_is : (P : ℕ → Type 0) → P 32 → P 9 → P 10 → P 13 → P 44 → P 93 → P 125 → (b : ℕ) → is_end b ≡ true → P b
end_is P a c d e f g k b h = grind (arith, or_cases, space_is)
