-- What is true of the topology that is built of layers.
use Rattle.std.specs.Prelude.{◌≡◌, ℕ, Bool, true, List, Option, None, Some, if◌then◌else◌}
use Rattle.std.specs.List.{AllByRecursion}
use Rattle.arc_table.specs.Laws.{AreOnceIn}
use Rattle.cutter.specs.Pieces.{from_start}
use Rattle.cutter.specs.Segments.{line_segments}
use Rattle.geojson_types.specs.declared.layer.FeatureSet.TheVariants as set
use Rattle.geojson_types.specs.Features.{Featured, is_proper_option}
use Rattle.geojson_types.specs.Places.{option_points}
use Rattle.geometry.specs.Points.{Point, IsPosition}
use Rattle.geometry.specs.Pruning.{option_lines_and_rings}
use Rattle.junctions.specs.Cleaning.{clean, is_short}
use Rattle.junctions.specs.Cuts.{is_cut}
use Rattle.linework.specs.Linework.{linework}
pub use Rattle.linework.specs.Outlines.{IsRingIfClosed}
use Rattle.topojson_types.specs.Decoding.{decoded}
use Rattle.topojson_types.specs.Validity.{AreDistinct, IsTopology}
use Rattle.build_meaning.specs.Built.{all_arcs, built}
use Rattle.build_meaning.specs.Expected.{cleaned, kept_line, expected}
use Rattle.build_meaning.specs.Layers.{Named, names_of, layers_of, named_lines_and_rings}

-- ---- premises

-- what holds of each feature that is read: no list is empty but a group's, its rings are rings, and its positions are positions
pub record IsSound (f : Featured) : Type 0 where
  pub proper : is_proper_option f.shape ≡ true
  pub rings : AllByRecursion IsRingIfClosed (option_lines_and_rings f.shape)
  pub places : AllByRecursion IsPosition (option_points f.shape)

abbrev pub AreSound : Named → Type 0
AreSound ls = AllByRecursion (λ l. AllByRecursion IsSound l.1.features) ls

-- ---- laws

-- decoding gives each layer the features that are expected of it
abbrev pub DecodesBack : Type 0
DecodesBack = (t limit : ℕ) (ls : Named) → AreSound ls → AreDistinct (names_of ls)
    → AllByRecursion (λ l. decoded (built t limit ls) l.0 ≡ Some (set.Many l.1.features)) (expected t limit ls)

-- the topology is valid
abbrev pub IsValid : Type 0
IsValid = (t limit : ℕ) (ls : Named) → AreSound ls → AreDistinct (names_of ls) → IsTopology (built t limit ls)

-- before reduction and before arcs are left out, each segment of the lines lies once, in exactly one arc
abbrev pub EachSegmentOnce : Type 0
EachSegmentOnce = (ls : Named) → AreSound ls → AreOnceIn (all_arcs (linework (layers_of ls))) (line_segments (linework (layers_of ls)))

-- what is expected of a line at a threshold and a limit of zero: itself with equal neighbours as one position, a ring from its start, unless it
-- has too few positions
abbrev pub whole_line : Named → Bool → List Point → Option (List Point)
whole_line ls closed ps = if is_short closed (clean ps) then None else Some (from_start (is_cut (linework (layers_of ls))) (cleaned closed ps))

-- at a threshold and a limit of zero nothing is removed from the lines of the layers
abbrev pub LosesNothing : Type 0
LosesNothing = (ls : Named) → AreSound ls
    → AllByRecursion (λ b. kept_line (linework (layers_of ls)) 0 0 b.0 b.1 ≡ whole_line ls b.0 b.1) (named_lines_and_rings ls)
