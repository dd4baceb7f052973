-- Lines that share one list of cut indexes.
use Rattle.std.specs.Prelude.{◌≡◌, ℕ, ◌≤◌, List, [], ◌∷◌, length}
use Rattle.std.specs.List.{slice_range}
use Rattle.junctions.specs.declared.stroke.Stroke.{Stroke}
use Rattle.cutter.specs.Slices.{SplitLine, slices, IsRising}

-- the lines with their pieces. The cut indexes of the first line begin at the place `from`, and those of each line end at the place that is
-- listed for it, at which those of the next line begin
abbrev pub split_lines_and_rings : List ℕ → ℕ → List Stroke → List ℕ → List SplitLine
split_lines_and_rings cuts from [] ends = []
split_lines_and_rings cuts from (s ∷ ss) [] = []
split_lines_and_rings cuts from (s ∷ ss) (end ∷ ends) = record { stroke = s; pieces = slices s.positions (slice_range cuts from end) } ∷ split_lines_and_rings cuts end ss ends

-- a place is listed for each line, its indexes rise and are less than the number of its positions, and the last line ends with the last index
abbrev pub AreCutIndexes : List ℕ → ℕ → List Stroke → List ℕ → Type 0
AreCutIndexes cuts from [] [] = from ≡ length cuts
AreCutIndexes cuts from [] (end ∷ ends) = ⊥
AreCutIndexes cuts from (s ∷ ss) [] = ⊥
AreCutIndexes cuts from (s ∷ ss) (end ∷ ends) = (from ≤ end) × (end ≤ length cuts) × IsRising (length s.positions) (slice_range cuts from end) × AreCutIndexes cuts end ss ends

-- the places rise up to the number of the indexes
abbrev pub AreEnds : List ℕ → ℕ → List ℕ → Type 0
AreEnds cuts from [] = Unit {0}
AreEnds cuts from (end ∷ ends) = (from ≤ end) × (end ≤ length cuts) × AreEnds cuts end ends

-- the indexes between each two places in a row, the first of which is `from`
abbrev pub own_indexes : List ℕ → ℕ → List ℕ → List (List ℕ)
own_indexes cuts from [] = []
own_indexes cuts from (end ∷ ends) = slice_range cuts from end ∷ own_indexes cuts end ends

-- the lines with their pieces, where each is cut at indexes of its own
abbrev pub cut_lines : List Stroke → List (List ℕ) → List SplitLine
cut_lines [] own = []
cut_lines (s ∷ ss) [] = []
cut_lines (s ∷ ss) (is ∷ own) = record { stroke = s; pieces = slices s.positions is } ∷ cut_lines ss own

-- each line has indexes of its own, which rise and are less than the number of its positions
abbrev pub AllRise : List Stroke → List (List ℕ) → Type 0
AllRise [] [] = Unit {0}
AllRise [] (is ∷ own) = ⊥
AllRise (s ∷ ss) [] = ⊥
AllRise (s ∷ ss) (is ∷ own) = IsRising (length s.positions) is × AllRise ss own
