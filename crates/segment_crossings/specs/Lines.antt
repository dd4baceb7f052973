-- The segments of arcs.
use Rattle.std.specs.Prelude.{ℕ, zero, suc, ◌+◌, ◌-◌, ◌<◌, ◌≤◌, pos, List, length, map, drop, slice_index_or}
use Rattle.std.specs.List.{filter}
use Rattle.geometry.specs.Points.{Point}
use Rattle.guarded_meaning.specs.Segments.{Segment, segment, meets_badly}
use Rattle.segment_crossings.specs.Crossings.{pairs_with}
use Rattle.segment_crossings.specs.declared.crossing.Crossing.{Crossing}
use Rattle.segment_crossings.specs.declared.line.Line.{Line}

abbrev pub as_segment : Line → Segment
as_segment l = segment l.from l.to

abbrev pub no_point : Point
no_point = record { x = pos 0; y = pos 0 }

abbrev pub no_line : Line
no_line = record { from = no_point; to = no_point }

unfoldable pub line_at : List Line → ℕ → Line
line_at ls i = slice_index_or ls i no_line

-- so is the segment of each rank from one on, before another
abbrev pub Each : (Segment → Type 0) → List Line → ℕ → ℕ → Type 0
Each P ls first end = (r : ℕ) → first ≤ r → r < end → P (as_segment (line_at ls r))

-- how many of these meet it badly
abbrev pub bad_among : Segment → List Segment → ℕ
bad_among s ss = length (filter (meets_badly s) ss)

-- how many from this rank on meet it badly
abbrev pub bad_from : List Line → Line → ℕ → ℕ
bad_from ls l r = bad_among (as_segment l) (map as_segment (drop r ls))

-- it with each from this rank on that meets it badly
abbrev pub pairs_from : List Line → Line → ℕ → List Crossing
pairs_from ls l r = pairs_with (as_segment l) (map as_segment (drop r ls))

-- how many pairs of one of the n from a rank on, and one from another rank on, meet badly
abbrev pub bad_across : List Line → ℕ → ℕ → ℕ → ℕ
bad_across ls r zero e = 0
bad_across ls r (suc n) e = bad_from ls (line_at ls r) e + bad_across ls (r + 1) n e

-- how many pairs of two of the n from a rank on, which end before another, meet badly
abbrev pub bad_inside : List Line → ℕ → ℕ → ℕ → ℕ
bad_inside ls r zero e = 0
bad_inside ls r (suc n) e = (bad_from ls (line_at ls r) (r + 1) - bad_from ls (line_at ls r) e) + bad_inside ls (r + 1) n e
