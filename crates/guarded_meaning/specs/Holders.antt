-- What holds a corner.
use Rattle.std.specs.Prelude.{◌≡◌, Bool, true, false, List}
use Rattle.geometry.specs.Lists.{In}
use Rattle.geometry.specs.Rings.{same}
use Rattle.elimination_meaning.specs.Elimination.{Vertex}
use Rattle.guarded_meaning.specs.Arcs.{ArcCorner, Place, places, is_place_of, Neighbours, segment_of, all_neighbours, is_pair_of}
use Rattle.guarded_meaning.specs.Segments.{segment, same_ends}
use Rattle.guarded_meaning.specs.Triangles.{is_clear}

-- what can hold a corner: a place in its triangle, or neighbours at the ends of its base
pub data Holder : Type 0 where
  Inside : Place → Holder
  Across : Neighbours → Holder

-- it is left
abbrev pub IsLeft : List (List Vertex) → Holder → Type 0
IsLeft arcs (Inside x) = In x (places 0 arcs)
IsLeft arcs (Across n) = In n (all_neighbours 0 arcs)

-- it goes when the corner goes
abbrev pub goes_with : ArcCorner → Holder → Bool
goes_with c (Inside x) = is_place_of c x
goes_with c (Across n) = is_pair_of c n

-- it is none of the corner's own, and is in its triangle, or at the ends of its base, which are two positions
abbrev pub Holds : ArcCorner → Holder → Type 0
Holds c (Inside x) = (is_place_of c x ≡ false) × (is_clear c.before c.corner.point c.after x.vertex.point ≡ false)
Holds c (Across n) = (is_pair_of c n ≡ false) × (same_ends (segment c.before c.after) (segment_of n) ≡ true) × (same c.before c.after ≡ false)
