-- Pairs of numbers at the front of bytes.
use Rattle.std.specs.Prelude.{◌≡◌, ℕ, ℤ, Bool, true, if◌then◌else◌, List, ◌∷◌}
use Rattle.json_value.specs.Reading.{skip}
use Rattle.unit_scanning.specs.Numbers.{IsUnits}

-- Two numbers of some kind stand after white space, with a comma (44) between them, then a comma where more elements follow, or else the bracket
-- that closes (93), and this follows it.
pub record ArePlainPair (number : List ℕ → ℤ → List ℕ → Type 0) (bytes : List ℕ) (x y : ℤ) (more : Bool) (rest : List ℕ) : Type 0 where
  pub after : List ℕ
  pub first : number (skip bytes) x after
  pub further : List ℕ
  pub comma : skip after ≡ 44 ∷ further
  pub following : List ℕ
  pub second : number (skip further) y following
  pub mark : skip following ≡ (if more then 44 else 93) ∷ rest

-- a number in whole units of which nothing is rounded
abbrev pub ArePlainUnits : List ℕ → ℤ → List ℕ → Type 0
ArePlainUnits bytes value rest = IsUnits bytes value true rest
