-- Reduction of all arcs at once: of all their corners that are under the threshold and may go, the least goes, again and again.
use Rattle.std.specs.Prelude.{ℕ, zero, suc, nat_lt, Bool, ◌&&◌, List, [], ◌∷◌, map, length, Option, None, Some, if◌then◌else◌}
use Rattle.std.specs.List.{filter}
use Rattle.std.specs.Ordering.{ordering_then, nat_cmp, is_lt}
use Rattle.std.specs.declared.cmp.Ordering.{Ordering}
use Rattle.geometry.specs.Lists.{joined, map_some}
use Rattle.geometry.specs.Order.{point_cmp}
use Rattle.geometry.specs.Points.{Point}
use Rattle.elimination_meaning.specs.Elimination.{Vertex, numbered}
use Rattle.guarded_meaning.specs.Arcs.{ArcCorner, all_corners, left_by, points_of}

-- ---- the order of corners

-- by area, then by position, then by arc, then by index
abbrev pub arc_corner_cmp : ArcCorner → ArcCorner → Ordering
arc_corner_cmp c d = ordering_then (nat_cmp c.corner.area d.corner.area)
    (ordering_then (point_cmp c.corner.point d.corner.point) (ordering_then (nat_cmp c.arc d.arc) (nat_cmp c.corner.index d.corner.index)))

-- the first goes before the second
unfoldable pub goes_before : ArcCorner → ArcCorner → Bool
goes_before c d = is_lt (arc_corner_cmp c d)

-- the one of the two that goes first, where there are both
abbrev pub earlier : Option ArcCorner → Option ArcCorner → Option ArcCorner
earlier None d = d
earlier (Some c) None = Some c
earlier (Some c) (Some d) = Some (if goes_before d c then d else c)

-- the one of them that goes first, if there is one
abbrev pub first_corner : List ArcCorner → Option ArcCorner
first_corner [] = None
first_corner (c ∷ cs) = earlier (Some c) (first_corner cs)

-- ---- elimination

-- whether a corner of these arcs may go
abbrev pub Guard : Type 0
Guard = List (List Vertex) → ArcCorner → Bool

-- it is under the threshold, and may go
abbrev pub goes : Guard → ℕ → Guard
goes guard t arcs c = nat_lt c.corner.area t && guard arcs c

-- the one that goes first of the corners that pass
abbrev pub next_corner : Guard → List (List Vertex) → Option ArcCorner
next_corner passes arcs = first_corner (filter (passes arcs) (all_corners 0 arcs))

-- one corner gone, if there is one that goes
abbrev pub next_arcs : Guard → ℕ → List (List Vertex) → Option (List (List Vertex))
next_arcs guard t arcs = map_some (left_by arcs) (next_corner (goes guard t) arcs)

-- so many corners gone at most
abbrev pub eliminate_arcs : Guard → ℕ → ℕ → List (List Vertex) → List (List Vertex)
eliminate_arcs guard zero t arcs = arcs
eliminate_arcs guard (suc n) t arcs = elim (next_arcs guard t arcs) [ None ↦ arcs | Some left ↦ eliminate_arcs guard n t left ]

-- the vertices that stay while corners go, one after another
abbrev pub remaining_arcs : Guard → ℕ → List (List Point) → List (List Vertex)
remaining_arcs guard t arcs = eliminate_arcs guard (length (joined arcs)) t (map (numbered 0) arcs)

-- the indexes of the positions that stay, arc by arc
unfoldable pub reduce_arcs : Guard → ℕ → List (List Point) → List (List ℕ)
reduce_arcs guard t arcs = map (map (λ v. v.index)) (remaining_arcs guard t arcs)

-- the positions that stay, arc by arc
unfoldable pub reduced_arcs : Guard → ℕ → List (List Point) → List (List Point)
reduced_arcs guard t arcs = points_of (remaining_arcs guard t arcs)
