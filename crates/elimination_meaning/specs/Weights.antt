-- Weights of positions: up to which threshold each of them stays.
use Rattle.std.specs.Prelude.{ℕ, zero, suc, ◌==◌, nat_lt, max, Bool, true, not, List, length, Option, None, Some, if◌then◌else◌}
use Rattle.geometry.specs.Points.{Point}
use Rattle.elimination_meaning.specs.Elimination.{Vertex, corners, least, without, numbered}

-- the greatest of this area and of those at which points are removed without a threshold, up to and including the one of this
-- index, where it is among the first so many
abbrev pub weight_from : ℕ → ℕ → List Vertex → ℕ → Option ℕ
weight_from zero level vs i = None
weight_from (suc n) level vs i =
    elim (least (corners vs)) [ None ↦ None | Some c ↦ if c.index == i then Some (max level c.area) else weight_from n (max level c.area) (without c.index vs) i ]

-- the greatest of the doubled areas at which points are removed without a threshold, up to and including the one of this
-- index; none for the ends
abbrev pub weight : List Point → ℕ → Option ℕ
weight ps i = weight_from (length ps) 0 (numbered 0 ps) i

-- an end stays, and another position where its weight isn't under the threshold
abbrev pub is_kept_at : ℕ → Option ℕ → Bool
is_kept_at t None = true
is_kept_at t (Some w) = not (nat_lt w t)
