-- The first corners that go.
use Rattle.std.specs.Prelude.{ℕ, zero, suc, Bool, false, List, [], ◌∷◌, max, None, Some, slice_set}
use Rattle.elimination_meaning.specs.Elimination.{Vertex}
use Rattle.guarded_meaning.specs.Arcs.{left_by}
use Rattle.guarded_meaning.specs.Elimination.{Guard, next_corner}

-- the greatest of this area and of those of the first so many corners that go without a threshold
abbrev pub level_after : Guard → ℕ → ℕ → List (List Vertex) → ℕ
level_after guard zero level arcs = level
level_after guard (suc n) level arcs = elim (next_corner guard arcs) [ None ↦ level | Some c ↦ level_after guard n (max level c.corner.area) (left_by arcs c) ]

-- without these places
abbrev pub without_all : List ℕ → List Bool → List Bool
without_all [] bs = bs
without_all (z ∷ zs) bs = without_all zs (slice_set bs z false)
