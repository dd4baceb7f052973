-- Segments in another order.
use Rattle.std.specs.Prelude.{◌≡◌, ℕ, List, sum_by}
use Rattle.std.specs.List.{filter}
use Rattle.geometry.specs.Points.{Point}
use Rattle.guarded_meaning.specs.Segments.{Segment, has_length, line_segments}
use Rattle.segment_crossings.specs.declared.gathering.Stretch.{Stretch}

-- the same segments, each as often: the same sum of whatever is said of each
pub record AreSame (ss ts : List Segment) : Type 0 where
  pub sums : (f : Segment → ℕ) → sum_by f ts ≡ sum_by f ss

-- the segments of an arc: equal neighbours make none
abbrev pub arc_lines : List Point → List Segment
arc_lines ps = filter has_length (line_segments ps)

-- the segments of a stretch
abbrev pub lines_in : Stretch → List Segment
lines_in s = arc_lines s.positions.now
