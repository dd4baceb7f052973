-- The arcs that lines and rings are rebuilt of, and how little a ring may enclose.
use Rattle.std.specs.Prelude.{ℕ, List, Option}
use Rattle.geometry.specs.Points.{Point}

-- twice the area of a ring is not under the limit
pub record Rebuilding : Type 0 where
  pub arcs : List (List Point)
  pub limit : ℕ

-- of these arcs, and where there are others before that, of those first
pub record Judging : Type 0 where
  pub first : Option Rebuilding
  pub later : Rebuilding
