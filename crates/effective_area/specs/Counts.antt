-- Steps of a reducer, and how they are counted.
use Rattle.std.specs.Prelude.{ℕ, ◌+◌, ◌-◌, ◌^◌, ◌≤◌, List, [], min}
use Rattle.effective_area.specs.Calls.{Call}
use Rattle.effective_area.specs.declared.steps.Steps.{Steps}

-- a count stays at the largest `u64`
abbrev pub one_more : ℕ → ℕ
one_more n = min (n + 1) (2 ^ 64 - 1)

abbrev pub no_steps : Steps
no_steps = record { areas = 0; pushes = 0 }

abbrev pub one_area : Steps → Steps
one_area s = record { areas = one_more s.areas; pushes = s.pushes }

abbrev pub one_push : Steps → Steps
one_push s = record { areas = s.areas; pushes = one_more s.pushes }

-- no count fell, and none rose by more than this, so one at the largest `u64` stayed there
pub record RoseAtMost (n : ℕ) (old new : Steps) : Type 0 where
  pub areas_stay : old.areas ≤ new.areas
  pub areas_most : new.areas ≤ old.areas + n
  pub pushes_stay : old.pushes ≤ new.pushes
  pub pushes_most : new.pushes ≤ old.pushes + n

-- no count fell, the areas rose by m at most and the pushes by n
pub record RoseBy (m n : ℕ) (old new : Steps) : Type 0 where
  pub areas_stay : old.areas ≤ new.areas
  pub areas_most : new.areas ≤ old.areas + m
  pub pushes_stay : old.pushes ≤ new.pushes
  pub pushes_most : new.pushes ≤ old.pushes + n

-- the areas rose by this at least, unless they reached the largest `u64`
abbrev pub AreasRose : ℕ → Steps → Steps → Type 0
AreasRose n old new = min (old.areas + n) (2 ^ 64 - 1) ≤ new.areas

-- what contracts see of a reducer that counts its steps: its calls, and what it did in all of them
pub record Counted : Type 0 where
  pub calls : List Call
  pub steps : Steps

abbrev pub nothing_counted : Counted
nothing_counted = record { calls = []; steps = no_steps }
