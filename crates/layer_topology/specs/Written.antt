-- The topology that is written of layers: on the grid that is asked for, if one is, at a threshold, and with a least ring area.
use Rattle.std.specs.Prelude.{ℕ, Option}
use Rattle.build_meaning.specs.Built.{built}
use Rattle.build_meaning.specs.BuiltLaws.{AreSound}
use Rattle.build_meaning.specs.Layers.{Named, names_of}
use Rattle.build_meaning.specs.Quantized.{IsCount, AreInputs, named_grid, snapped_named, quantized}
use Rattle.build_meaning.specs.Assembled.{arcs_of_layers}
use Rattle.build_meaning.specs.Left.{Left}
use Rattle.build_meaning.specs.InTurn.{layers_left_in_turn, without_small}
use Rattle.build_meaning.specs.declared.guards.Guards.{Guards}
use Rattle.layer_topology.specs.declared.level.Level.{Level}
use Rattle.layer_topology.specs.Levels.{threshold_over}
use Rattle.topojson_types.specs.Topologies.{Contents}
use Rattle.topojson_types.specs.Validity.{AreDistinct}

-- the layers snapped to the grid of so many coordinates over all of them, where one is asked for
abbrev pub snapped_to : Option ℕ → Named → Named
snapped_to count ls = snapped_named (named_grid count ls) ls

-- what is built of the snapped layers at a threshold and a limit, on that grid
unfoldable pub written : Option ℕ → ℕ → ℕ → Named → Contents
written count t limit ls = quantized (named_grid count ls) (built t limit (snapped_to count ls))

-- under the guards that are asked for: what is left of the snapped layers, put on that grid, with what is dropped of them
abbrev pub written_left : Guards → Option ℕ → ℕ → ℕ → Named → Left
written_left guards count t limit ls = record {
  contents = quantized (named_grid count ls) (layers_left_in_turn guards t limit (snapped_to count ls)).contents;
  dropped = (layers_left_in_turn guards t limit (snapped_to count ls)).dropped;
  removed_count = (layers_left_in_turn guards t limit (snapped_to count ls)).removed_count;
}

-- the threshold of layers: where guards are asked for that of what is built of them at zero, without what goes first, and otherwise that of all arcs
-- of their lines
abbrev pub layers_threshold : Guards → Level → ℕ → Named → ℕ
layers_threshold guards level limit ls = threshold_over guards level (without_small guards limit (built 0 0 ls)) (arcs_of_layers ls)

-- and on the grid of so many coordinates
abbrev pub written_threshold : Guards → Option ℕ → Level → ℕ → Named → ℕ
written_threshold guards count level limit ls = threshold_over guards level (without_small guards limit (written count 0 0 ls)) (arcs_of_layers (snapped_to count ls))

-- a grid that may be asked for, and layers as they are read: sound, of positions that are read, under distinct names
pub record AreTaken (grid : Option ℕ) (ls : Named) : Type 0 where
  pub count : IsCount grid
  pub sound : AreSound ls
  pub inputs : AreInputs ls
  pub names : AreDistinct (names_of ls)
