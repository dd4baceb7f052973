-- Weights of positions under a guard: up to which threshold each of them stays.
use Rattle.std.specs.Prelude.{ℕ, zero, suc, max, Bool, List, [], ◌∷◌, ◌++◌, map, length, Option, None, Some, if◌then◌else◌}
use Rattle.std.specs.List.{filter}
use Rattle.geometry.specs.Lists.{joined, interior}
use Rattle.geometry.specs.Points.{Point}
use Rattle.elimination_meaning.specs.Elimination.{Vertex, numbered}
use Rattle.guarded_meaning.specs.Arcs.{Place, place_at, is_place_of, left_by}
use Rattle.guarded_meaning.specs.Elimination.{Guard, next_corner}

-- the greatest of this area and of those of the corners that go without a threshold, up to and including the corner of this place, where
-- it is among the first so many
abbrev pub weight_from : Guard → ℕ → ℕ → List (List Vertex) → Place → Option ℕ
weight_from guard zero level arcs x = None
weight_from guard (suc n) level arcs x =
    elim (next_corner guard arcs) [ None ↦ None | Some c ↦ if is_place_of c x then Some (max level c.corner.area) else weight_from guard n (max level c.corner.area) (left_by arcs c) x ]

-- the greatest of the doubled areas of the corners that go without a threshold, up to and including the one of this place; none for the
-- ends of arcs, and for what never goes
abbrev pub weight : Guard → List (List Point) → Place → Option ℕ
weight guard arcs x = weight_from guard (length (joined arcs)) 0 (map (numbered 0) arcs) x

-- the vertices whose places pass, of arcs of which the first has this number
abbrev pub passing : (Place → Bool) → ℕ → List (List Vertex) → List (List Vertex)
passing p k [] = []
passing p k (vs ∷ arcs) = filter (λ v. p (place_at k v)) vs ∷ passing p (suc k) arcs

-- the places between the ends of arcs of which the first has this number
abbrev pub interior_places : ℕ → List (List Vertex) → List Place
interior_places k [] = []
interior_places k (vs ∷ arcs) = map (place_at k) (interior vs) ++ interior_places (suc k) arcs

-- the weights of the positions between the ends of arcs, in order
abbrev pub interior_weights : Guard → List (List Point) → List (Option ℕ)
interior_weights guard arcs = map (weight guard arcs) (interior_places 0 (map (numbered 0) arcs))

-- how many positions are between the ends of arcs
abbrev pub interior_count : List (List Point) → ℕ
interior_count arcs = length (joined (map interior arcs))
