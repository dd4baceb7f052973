-- Lines that are split at indexes, and what contracts see of the pieces of lines.
use Rattle.std.specs.Prelude.{◌≡◌, ℕ, ◌+◌, ◌<◌, Bool, true, List, [], ◌∷◌, map, Option, None, Some, if◌then◌else◌}
use Rattle.std.specs.List.{slice_range, flat_map, AllByRecursion}
use Rattle.geometry.specs.Order.{is_before, least_of}
use Rattle.geometry.specs.Points.{Point}
use Rattle.junctions.specs.Cuts.{is_cut}
use Rattle.junctions.specs.Visits.{last}
use Rattle.junctions.specs.declared.stroke.Stroke.{Stroke}
use Rattle.cutter.specs.Pieces.{from_start, split_at, stitched}
use Rattle.cutter.specs.Segments.{segments, piece_segments}

-- the indexes of the positions that pass the test, where the first position has the index i
abbrev pub indexes : (Point → Bool) → ℕ → List Point → List ℕ
indexes cut i [] = []
indexes cut i (p ∷ ps) = if cut p then i ∷ indexes cut (i + 1) ps else indexes cut (i + 1) ps

-- the positions from each index to the next, both kept
abbrev pub slices : List Point → List ℕ → List (List Point)
slices ps [] = []
slices ps (i ∷ []) = []
slices ps (i ∷ (j ∷ js)) = slice_range ps i (j + 1) ∷ slices ps (j ∷ js)

-- each index is less than the next, and all are less than n
abbrev pub IsRising : ℕ → List ℕ → Type 0
IsRising n [] = Unit {0}
IsRising n (i ∷ []) = i < n
IsRising n (i ∷ (j ∷ js)) = (i < j) × IsRising n (j ∷ js)

-- a line, a ring from its start, and its pieces
pub record SplitLine : Type 0 where
  pub stroke : Stroke
  pub pieces : List (List Point)

-- the line, a ring from its start
abbrev pub started : (Point → Bool) → Stroke → Stroke
started cut s = record { closed = s.closed; positions = from_start cut s }

-- the line, split at the positions that pass
abbrev pub split_by : (Point → Bool) → Stroke → SplitLine
split_by cut s = record { stroke = started cut s; pieces = split_at cut (from_start cut s) }

-- one of the lines, split at their cut positions
abbrev pub split_of : List Stroke → Stroke → SplitLine
split_of ls s = split_by (is_cut ls) s

-- the lines, rings from their starts
abbrev pub lines_and_rings : List SplitLine → List Stroke
lines_and_rings ss = map (λ s. s.stroke) ss

-- the pieces of each line
abbrev pub piece_lists : List SplitLine → List (List (List Point))
piece_lists ss = map (λ s. s.pieces) ss

-- the pieces of all lines
abbrev pub all_pieces : List SplitLine → List (List Point)
all_pieces ss = flat_map (λ s. s.pieces) ss

-- the pieces, joined again, are the line, and their segments are its segments, in the same order
pub record IsSplit (s : SplitLine) : Type 0 where
  pub joins : stitched s.pieces ≡ s.stroke.positions
  pub segments : piece_segments s.pieces ≡ segments s.stroke.positions

-- the pieces of each line, joined again, are the line, and their segments are its segments
abbrev pub AllSplit : List SplitLine → Type 0
AllSplit ss = AllByRecursion IsSplit ss

-- the least position, if there is one
abbrev pub least_point : List Point → Option Point
least_point [] = None
least_point (p ∷ ps) = Some (least_of p ps)

-- the lesser of the least so far, if there is one, and one more
abbrev pub least_with : Option Point → Point → Option Point
least_with None p = Some p
least_with (Some b) p = Some (if is_before p b then p else b)

-- the first and the last position pass
abbrev pub EndsPass : (Point → Bool) → List Point → Type 0
EndsPass cut [] = Unit {0}
EndsPass cut (p ∷ ps) = (cut p ≡ true) × (cut (last p ps) ≡ true)
