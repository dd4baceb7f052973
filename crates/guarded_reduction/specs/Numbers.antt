-- The places of arcs, numbered one arc after another.
use Rattle.std.specs.Prelude.{ℕ, zero, suc, ◌+◌, ◌<◌, Bool, List, [], ◌∷◌, length, map}
use Rattle.std.specs.List.{filter, range_with_len}
use Rattle.geometry.specs.Points.{Point}
use Rattle.elimination_meaning.specs.Elimination.{Vertex, numbered}
use Rattle.guarded_meaning.specs.Weights.{passing}
use Rattle.guarded_reduction.specs.Indexes.{is_left_at}

-- the number of the place of this index in the arc of this number
abbrev pub number : List (List Point) → ℕ → ℕ → ℕ
number [] k i = i
number (ps ∷ arcs) zero i = i
number (ps ∷ arcs) (suc k) i = length ps + number arcs k i

-- there is such a place
abbrev pub HasPlace : List (List Point) → ℕ → ℕ → Type 0
HasPlace [] k i = ⊥
HasPlace (ps ∷ arcs) zero i = i < length ps
HasPlace (ps ∷ arcs) (suc k) i = HasPlace arcs k i

-- the arcs without the places that are gone
abbrev pub left_arcs : List (List Point) → List Bool → List (List Vertex)
left_arcs arcs bs = passing (λ x. is_left_at bs (number arcs x.arc x.vertex.index)) 0 (map (numbered 0) arcs)

-- of n places from a first one on the indexes of those that are left
abbrev pub kept_indexes : List Bool → ℕ → ℕ → List ℕ
kept_indexes bs first n = filter (λ i. is_left_at bs (first + i)) (range_with_len 0 n)

-- of each arc, where the first begins with this place
abbrev pub all_kept_indexes : List Bool → ℕ → List (List Point) → List (List ℕ)
all_kept_indexes bs first [] = []
all_kept_indexes bs first (ps ∷ arcs) = kept_indexes bs first (length ps) ∷ all_kept_indexes bs (first + length ps) arcs
