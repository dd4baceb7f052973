-- The calls of a reducer.
use Rattle.std.specs.Prelude.{ℕ, List, map}
use Rattle.geometry.specs.Points.{Point}

-- what a reducer is asked for: to reduce this line at this threshold
pub record Call : Type 0 where
  pub threshold : ℕ
  pub line : List Point

abbrev pub call_at : ℕ → List Point → Call
call_at t line = record { threshold = t; line = line }

-- it is asked for these lines, one after another, at one threshold
abbrev pub calls_for : ℕ → List (List Point) → List Call
calls_for t lines = map (call_at t) lines
