-- The links of whole arcs.
use Rattle.std.specs.Prelude.{ℕ, ◌+◌, ◌-◌, min, Bool, true, false, List, [], ◌∷◌, ◌++◌, length, map, replicate}
use Rattle.std.specs.List.{range_with_len}
use Rattle.geometry.specs.Lists.{joined}
use Rattle.geometry.specs.Points.{Point}
use Rattle.guarded_reduction.specs.Linking.{Linked}

-- which index of an arc of n positions is a neighbour of this one
abbrev pub Neighbour : Type 0
Neighbour = ℕ → ℕ → ℕ

-- the one before it, or itself
abbrev pub before_index : Neighbour
before_index n i = i - 1

-- the one after it, or itself
abbrev pub after_index : Neighbour
after_index n i = min (i + 1) (n - 1)

-- the neighbours of n places from this one on
abbrev pub arc_links : Neighbour → ℕ → ℕ → List ℕ
arc_links neighbour first n = map (λ i. first + neighbour n i) (range_with_len 0 n)

-- those of the places of arcs, of which the first is this one
abbrev pub links_of : Neighbour → ℕ → List (List Point) → List ℕ
links_of neighbour first [] = []
links_of neighbour first (ps ∷ arcs) = arc_links neighbour first (length ps) ++ links_of neighbour (first + length ps) arcs

-- the places of arcs, which are all left
abbrev pub first_linked : Bool → List (List Point) → Linked
first_linked no_crossings arcs = record {
  positions = joined arcs;
  left = replicate (length (joined arcs)) true;
  befores = links_of before_index 0 arcs;
  afters = links_of after_index 0 arcs;
  no_crossings = no_crossings;
  fixed = replicate (length (joined arcs)) false;
}
