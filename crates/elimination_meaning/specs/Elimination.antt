-- Reduction of a line by repeated elimination of its point of least effective area: Visvalingam and Whyatt 1993.
use Rattle.std.specs.Prelude.{ℕ, zero, suc, ◌+◌, ◌==◌, nat_lt, Bool, not, List, [], ◌∷◌, map, length, Option, None, Some, if◌then◌else◌}
use Rattle.std.specs.List.{filter}
use Rattle.std.specs.Ordering.{ordering_then, nat_cmp, is_lt}
use Rattle.std.specs.declared.cmp.Ordering.{Ordering}
use Rattle.geometry.specs.Areas.{twice_area}
use Rattle.geometry.specs.Order.{point_cmp}
use Rattle.geometry.specs.Points.{Point}

-- ---- corners

-- a position of a line with its index
pub record Vertex : Type 0 where
  pub index : ℕ
  pub point : Point

-- a position between the ends, with twice the area of the triangle that it forms with its two present neighbours
pub record Corner : Type 0 where
  pub area : ℕ
  pub point : Point
  pub index : ℕ

abbrev pub corner_at : Vertex → Vertex → Vertex → Corner
corner_at a b c = record { area = twice_area a.point b.point c.point; point = b.point; index = b.index }

-- the corners after the first two vertices on
abbrev pub corners_from : Vertex → Vertex → List Vertex → List Corner
corners_from a b [] = []
corners_from a b (c ∷ vs) = corner_at a b c ∷ corners_from b c vs

-- one for each vertex but the first and the last
abbrev pub corners : List Vertex → List Corner
corners [] = []
corners (a ∷ []) = []
corners (a ∷ (b ∷ vs)) = corners_from a b vs

-- by area, then by position, then by index
abbrev pub corner_cmp : Corner → Corner → Ordering
corner_cmp c d = ordering_then (nat_cmp c.area d.area) (ordering_then (point_cmp c.point d.point) (nat_cmp c.index d.index))

-- the first goes before the second
unfoldable pub is_before : Corner → Corner → Bool
is_before c d = is_lt (corner_cmp c d)

-- the lesser of the two, where there are both
abbrev pub lesser : Option Corner → Option Corner → Option Corner
lesser None d = d
lesser (Some c) None = Some c
lesser (Some c) (Some d) = Some (if is_before d c then d else c)

-- the least of them, if there is one
abbrev pub least : List Corner → Option Corner
least [] = None
least (c ∷ cs) = lesser (Some c) (least cs)

-- ---- elimination

-- without the vertex of this index
abbrev pub without : ℕ → List Vertex → List Vertex
without i vs = filter (λ v. not (v.index == i)) vs

-- without the corner, if there is one and its doubled area is under the threshold
abbrev pub without_under : ℕ → List Vertex → Option Corner → Option (List Vertex)
without_under t vs None = None
without_under t vs (Some c) = if nat_lt c.area t then Some (without c.index vs) else None

-- one point removed, the whole list scanned again, if its least corner is under the threshold
abbrev pub next : ℕ → List Vertex → Option (List Vertex)
next t vs = without_under t vs (least (corners vs))

-- so many points removed at most
abbrev pub eliminate : ℕ → ℕ → List Vertex → List Vertex
eliminate zero t vs = vs
eliminate (suc n) t vs = elim (next t vs) [ None ↦ vs | Some ws ↦ eliminate n t ws ]

-- positions with their indexes, of which the first is this one
abbrev pub numbered : ℕ → List Point → List Vertex
numbered i [] = []
numbered i (p ∷ ps) = record { index = i; point = p } ∷ numbered (i + 1) ps

-- the vertices that stay while the least corner under the threshold is removed again and again
abbrev pub remaining : ℕ → List Point → List Vertex
remaining t ps = eliminate (length ps) t (numbered 0 ps)

-- their indexes, which rise
unfoldable pub reduce : ℕ → List Point → List ℕ
reduce t ps = map (λ v. v.index) (remaining t ps)

-- their positions
unfoldable pub reduced : ℕ → List Point → List Point
reduced t ps = map (λ v. v.point) (remaining t ps)
