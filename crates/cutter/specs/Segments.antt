-- Segments of lists of positions, and how often they occur.
use Rattle.std.specs.Prelude.{ℕ, Bool, ◌&&◌, ◌||◌, List, [], ◌∷◌}
use Rattle.std.specs.List.{flat_map, count_by}
use Rattle.geometry.specs.Points.{Point}
use Rattle.geometry.specs.Rings.{same}
use Rattle.junctions.specs.declared.stroke.Stroke.{Stroke}

-- two positions in a row
pub record Segment : Type 0 where
  pub from : Point
  pub to : Point

-- the segments of a position and more of them
abbrev pub segments_from : Point → List Point → List Segment
segments_from p [] = []
segments_from p (q ∷ ps) = record { from = p; to = q } ∷ segments_from q ps

-- each two positions in a row
abbrev pub segments : List Point → List Segment
segments [] = []
segments (p ∷ ps) = segments_from p ps

-- it is the segment between a and b, in either direction
unfoldable pub is_segment : Point → Point → Segment → Bool
is_segment a b s = (same a s.from && same b s.to) || (same a s.to && same b s.from)

-- the segments of all lines
abbrev pub line_segments : List Stroke → List Segment
line_segments ls = flat_map (λ s. segments s.positions) ls

-- the segments of all pieces
abbrev pub piece_segments : List (List Point) → List Segment
piece_segments xs = flat_map segments xs

-- how often the segment between a and b occurs, in either direction
abbrev pub times : Point → Point → List Segment → ℕ
times a b ss = count_by (is_segment a b) ss
