-- Arcs while corners go: their places, neighbours, segments and corners.
use Rattle.std.specs.Prelude.{ℕ, zero, suc, ◌==◌, Bool, ◌&&◌, ◌||◌, List, [], ◌∷◌, ◌++◌, map}
use Rattle.std.specs.List.{filter}
use Rattle.geometry.specs.Lists.{AreDistinct}
use Rattle.geometry.specs.Points.{Point}
use Rattle.elimination_meaning.specs.Elimination.{Vertex, Corner, corner_at, without, numbered}
use Rattle.guarded_meaning.specs.Segments.{Segment, segment, has_length, bad_pairs}

-- ---- corners

-- a corner of the arc of this number, with the positions that are left before and after it
pub record ArcCorner : Type 0 where
  pub arc : ℕ
  pub before : Point
  pub corner : Corner
  pub after : Point

abbrev pub arc_corner_at : ℕ → Vertex → Vertex → Vertex → ArcCorner
arc_corner_at k a b c = record { arc = k; before = a.point; corner = corner_at a b c; after = c.point }

-- the corners after the first two vertices on
abbrev pub arc_corners_from : ℕ → Vertex → Vertex → List Vertex → List ArcCorner
arc_corners_from k a b [] = []
arc_corners_from k a b (c ∷ vs) = arc_corner_at k a b c ∷ arc_corners_from k b c vs

-- one for each vertex but the first and the last
abbrev pub arc_corners : ℕ → List Vertex → List ArcCorner
arc_corners k [] = []
arc_corners k (a ∷ []) = []
arc_corners k (a ∷ (b ∷ vs)) = arc_corners_from k a b vs

-- those of arcs of which the first has this number
abbrev pub all_corners : ℕ → List (List Vertex) → List ArcCorner
all_corners k [] = []
all_corners k (vs ∷ arcs) = arc_corners k vs ++ all_corners (suc k) arcs

-- ---- places

-- a vertex, with the number of its arc
pub record Place : Type 0 where
  pub arc : ℕ
  pub vertex : Vertex

abbrev pub place_at : ℕ → Vertex → Place
place_at k v = record { arc = k; vertex = v }

-- of arcs of which the first has this number
abbrev pub places : ℕ → List (List Vertex) → List Place
places k [] = []
places k (vs ∷ arcs) = map (place_at k) vs ++ places (suc k) arcs

-- the corner's own place
abbrev pub is_place_of : ArcCorner → Place → Bool
is_place_of c x = (x.arc == c.arc) && (x.vertex.index == c.corner.index)

-- ---- neighbours

-- two vertices of the arc of this number, one after the other
pub record Neighbours : Type 0 where
  pub arc : ℕ
  pub from : Vertex
  pub to : Vertex

abbrev pub neighbours_at : ℕ → Vertex → Vertex → Neighbours
neighbours_at k a b = record { arc = k; from = a; to = b }

abbrev pub segment_of : Neighbours → Segment
segment_of n = segment n.from.point n.to.point

-- from a vertex on
abbrev pub neighbours_from : ℕ → Vertex → List Vertex → List Neighbours
neighbours_from k a [] = []
neighbours_from k a (b ∷ vs) = neighbours_at k a b ∷ neighbours_from k b vs

abbrev pub neighbours : ℕ → List Vertex → List Neighbours
neighbours k [] = []
neighbours k (a ∷ vs) = neighbours_from k a vs

-- of arcs of which the first has this number
abbrev pub all_neighbours : ℕ → List (List Vertex) → List Neighbours
all_neighbours k [] = []
all_neighbours k (vs ∷ arcs) = neighbours k vs ++ all_neighbours (suc k) arcs

-- one of the corner's own two pairs
abbrev pub is_pair_of : ArcCorner → Neighbours → Bool
is_pair_of c n = (n.arc == c.arc) && ((n.from.index == c.corner.index) || (n.to.index == c.corner.index))

-- ---- segments

-- the neighbours between which there is a segment: equal ones make none
abbrev pub arc_segments : List (List Vertex) → List Neighbours
arc_segments arcs = filter (λ n. has_length (segment_of n)) (all_neighbours 0 arcs)

-- the segments of arcs of these positions
abbrev pub segments : List (List Point) → List Segment
segments arcs = map segment_of (arc_segments (map (numbered 0) arcs))

-- how many pairs of them meet badly
abbrev pub crossings : List (List Point) → ℕ
crossings arcs = bad_pairs (segments arcs)

-- ---- without a corner

-- without the vertex of this index in the arc of this number
abbrev pub without_at : ℕ → ℕ → List (List Vertex) → List (List Vertex)
without_at k i [] = []
without_at zero i (vs ∷ arcs) = without i vs ∷ arcs
without_at (suc k) i (vs ∷ arcs) = vs ∷ without_at k i arcs

-- what is left when the corner goes
abbrev pub left_by : List (List Vertex) → ArcCorner → List (List Vertex)
left_by arcs c = without_at c.arc c.corner.index arcs

-- the positions of arcs
abbrev pub points_of : List (List Vertex) → List (List Point)
points_of arcs = map (map (λ v. v.point)) arcs

-- no two of an arc's vertices have one index
abbrev pub HasOwnIndexes : List Vertex → Type 0
HasOwnIndexes vs = AreDistinct (map (λ v. v.index) vs)
