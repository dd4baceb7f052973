-- The ranges of what can be asked for.
use Rattle.std.specs.Prelude.{ℕ, ◌^◌, Bool, true, ◌&&◌, nat_le, Option, Some, None}
use Rattle.geometry.specs.Units.{threshold_limit}
use Rattle.layer_topology.specs.Levels.{is_level}
use Rattle.layer_topology.specs.declared.level.Level.{Level}

-- a grid has from 2 to 10^9 cells along each axis
abbrev pub is_grid : Option ℕ → Bool
is_grid None = true
is_grid (Some n) = nat_le 2 n && nat_le n (10 ^ 9)

-- a ring limit is twice an area, in square units, as a threshold is
abbrev pub is_in_range : Option ℕ → Level → ℕ → Bool
is_in_range grid level ring_limit = is_grid grid && (is_level level && nat_le ring_limit threshold_limit)
