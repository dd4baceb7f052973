-- Positions as contracts see them, and how far their coordinates may be from zero.
use Rattle.std.specs.Prelude.{ℕ, ℤ, ◌≤◌, unsigned_abs}
use Rattle.geometry.specs.Units.{input_limit, position_limit}

-- a position of the plane in whole units, x first
pub record Point : Type 0 where
  pub x : ℤ
  pub y : ℤ

-- neither coordinate is farther from zero than the bound
abbrev pub IsWithin : ℕ → Point → Type 0
IsWithin bound p = (unsigned_abs p.x ≤ bound) × (unsigned_abs p.y ≤ bound)

-- a layer may hold it
abbrev pub IsInput : Point → Type 0
IsInput = IsWithin input_limit

-- it is a position
abbrev pub IsPosition : Point → Type 0
IsPosition = IsWithin position_limit
