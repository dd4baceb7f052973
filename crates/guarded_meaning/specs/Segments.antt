-- Segments between positions, and when two of them meet badly.
use Rattle.std.specs.Prelude.{ℕ, ◌+◌, Bool, not, ◌&&◌, ◌||◌, ℤ, pos, int_lt, int_le, List, [], ◌∷◌, length}
use Rattle.std.specs.List.{filter}
use Rattle.std.specs.Ordering.{int_eq}
use Rattle.geometry.specs.Areas.{cross}
use Rattle.geometry.specs.Points.{Point}
use Rattle.geometry.specs.Rings.{same}

-- ---- where a position is, seen along the way from the first to the second

abbrev pub is_left : Point → Point → Point → Bool
is_left a b q = int_lt (pos 0) (cross a b q)

abbrev pub is_right : Point → Point → Point → Bool
is_right a b q = int_lt (cross a b q) (pos 0)

-- on their line
abbrev pub is_flat : Point → Point → Point → Bool
is_flat a b q = int_eq (cross a b q) (pos 0)

-- the third number is the first or the second, or between them
abbrev pub is_between : ℤ → ℤ → ℤ → Bool
is_between x y z = (int_le x z && int_le z y) || (int_le y z && int_le z x)

-- ---- a position and a segment

-- on it, or one of its ends
unfoldable pub is_on : Point → Point → Point → Bool
is_on a b q = is_flat a b q && (is_between a.x b.x q.x && is_between a.y b.y q.y)

abbrev pub is_end : Point → Point → Point → Bool
is_end a b q = same a q || same b q

-- on it, and no end of it
unfoldable pub touches : Point → Point → Point → Bool
touches a b q = is_on a b q && not (is_end a b q)

-- ---- two segments

pub record Segment : Type 0 where
  pub from : Point
  pub to : Point

abbrev pub segment : Point → Point → Segment
segment a b = record { from = a; to = b }

-- from a position on
abbrev pub segments_from : Point → List Point → List Segment
segments_from p [] = []
segments_from p (q ∷ ps) = segment p q ∷ segments_from q ps

-- between neighbours, also between equal ones
abbrev pub line_segments : List Point → List Segment
line_segments [] = []
line_segments (p ∷ ps) = segments_from p ps

-- its ends are two positions
abbrev pub has_length : Segment → Bool
has_length s = not (same s.from s.to)

-- the line through the first two has the others strictly on either side
unfoldable pub separates : Point → Point → Point → Point → Bool
separates a b c d = (is_left a b c && is_right a b d) || (is_right a b c && is_left a b d)

-- they have one position in common, which is no end of either
unfoldable pub crosses : Segment → Segment → Bool
crosses s t = separates s.from s.to t.from t.to && separates t.from t.to s.from s.to

-- an end of the second lies on the first, and is no end of it
abbrev pub is_touched : Segment → Segment → Bool
is_touched s t = touches s.from s.to t.from || touches s.from s.to t.to

-- they have the same two ends, in either order
unfoldable pub same_ends : Segment → Segment → Bool
same_ends s t = (same s.from t.from && same s.to t.to) || (same s.from t.to && same s.to t.from)

-- they have more in common than an end of both
unfoldable pub meets_badly : Segment → Segment → Bool
meets_badly s t = same_ends s t || (crosses s t || (is_touched s t || is_touched t s))

-- how many pairs of them, of two places of the list, meet badly
abbrev pub bad_pairs : List Segment → ℕ
bad_pairs [] = 0
bad_pairs (s ∷ ss) = length (filter (meets_badly s) ss) + bad_pairs ss
