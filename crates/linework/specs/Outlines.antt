-- Lines and rings by themselves, and the linework of these.
use Rattle.std.specs.Prelude.{◌≡◌, Bool, true, not, List, map}
use Rattle.std.specs.List.{filter}
use Rattle.geojson_types.specs.Features.{Featured}
use Rattle.geometry.specs.Lists.{joined}
use Rattle.geometry.specs.Points.{Point}
use Rattle.geometry.specs.Pruning.{option_lines_and_rings}
use Rattle.geometry.specs.Rings.{is_ring}
use Rattle.junctions.specs.Cleaning.{clean, is_short}
use Rattle.junctions.specs.declared.stroke.Stroke.{Stroke}

-- whether it is a ring (true) or an open line (false), and its positions
abbrev pub Outline : Type 0
Outline = Bool × List Point

-- those of features, in reading order
abbrev pub features_lines_and_rings : List Featured → List Outline
features_lines_and_rings fs = joined (map (λ f. option_lines_and_rings f.shape) fs)

-- that of a line or ring of the linework
abbrev pub outline : Stroke → Outline
outline s = (s.closed, s.positions)

-- a ring is one
abbrev pub IsRingIfClosed : Outline → Type 0
IsRingIfClosed b = b.0 ≡ true → is_ring b.1 ≡ true

-- it has too few positions, with equal neighbours as one
abbrev pub is_short_outline : Outline → Bool
is_short_outline b = is_short b.0 (clean b.1)

-- those that have enough
abbrev pub long_outlines : List Outline → List Outline
long_outlines bs = filter (λ b. not (is_short_outline b)) bs

-- the line or ring with equal neighbours as one position
abbrev pub cleaned : Bool → List Point → Stroke
cleaned closed ps = record { closed = closed; positions = clean ps }

-- those that have enough positions, with equal neighbours as one
abbrev pub linework_of : List Outline → List Stroke
linework_of bs = map (λ b. cleaned b.0 b.1) (long_outlines bs)

-- the line or ring with what is made of its positions
abbrev pub over_positions : (List Point → List Point) → Stroke → Stroke
over_positions f s = record { closed = s.closed; positions = f s.positions }
