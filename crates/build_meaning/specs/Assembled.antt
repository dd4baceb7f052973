-- The topology that is assembled of layers where of each arc only some positions are kept: the numbers of these are given, a list
-- for each arc.
use Rattle.std.specs.Prelude.{ℕ, ℤ, Bool, List, [], Option, None, Some, map, if◌then◌else◌}
use Rattle.arc_table.specs.Arcs.{index_in}
use Rattle.build_meaning.specs.Built.{all_arcs, untrimmed}
use Rattle.build_meaning.specs.Expected.{own_pieces}
use Rattle.build_meaning.specs.Layers.{Named, layers_of}
use Rattle.elimination_meaning.specs.Elimination.{reduce}
use Rattle.geojson_types.specs.Features.{Shape}
use Rattle.geometry.specs.declared.address.Cause.{Cause}
use Rattle.geometry.specs.declared.address.Cause.TheVariants.{Collapsed}
use Rattle.geometry.specs.declared.address.Dropped.{Dropped}
use Rattle.geometry.specs.DropCauses.{drop_causes, dropped_of_layers}
use Rattle.geometry.specs.Paths.{Placed}
use Rattle.geometry.specs.Points.{Point}
use Rattle.junctions.specs.Cleaning.{clean, is_short}
use Rattle.junctions.specs.declared.stroke.Stroke.{Stroke}
use Rattle.linework.specs.Linework.{linework}
use Rattle.topojson_types.specs.Topologies.{Contents}
use Rattle.build_meaning.specs.Simplified.{small_cause, retained_arcs, simplified_by, removed_count_by}

-- ---- arcs

-- the arcs of all lines of layers, before any is reduced
abbrev pub arcs_of_layers : Named → List (List Point)
arcs_of_layers ls = all_arcs (linework (layers_of ls))

-- of each arc the numbers of the positions that stay where it is reduced at a threshold
abbrev pub arc_indexes : ℕ → Named → List (List ℕ)
arc_indexes t ls = map (reduce t) (arcs_of_layers ls)

-- ---- lines and rings

-- the indexes of a line's own pieces among the arcs
abbrev pub own_refs : List Stroke → Bool → List Point → List ℤ
own_refs lines closed ps = map (index_in (all_arcs lines)) (own_pieces lines closed ps)

-- why a line or ring is dropped for its own sake: it has too few positions from the first, or else it is small when it is rebuilt of
-- these arcs
abbrev pub assembled_cause : List Stroke → List (List Point) → ℕ → Bool → List Point → Option Cause
assembled_cause lines arcs limit closed ps = if is_short closed (clean ps) then Some Collapsed else small_cause limit arcs closed (own_refs lines closed ps)

-- why a line or ring of layers is dropped for its own sake, where of each arc the positions of these numbers are kept
abbrev pub cause_by : List (List ℕ) → ℕ → Named → Bool → List Point → Option Cause
cause_by kept limit ls = assembled_cause (linework (layers_of ls)) (retained_arcs kept (arcs_of_layers ls)) limit

-- the lines and rings of a shape that may be null that are dropped, and the ways to them
abbrev pub option_caused : (Bool → List Point → Option Cause) → Option Shape → List (Placed Cause)
option_caused why None = []
option_caused why (Some s) = drop_causes why s

-- the lines and rings of all layers that are dropped, in reading order
abbrev pub layers_caused : (Bool → List Point → Option Cause) → Named → List Dropped
layers_caused why ls = dropped_of_layers 0 (map (λ l. map (λ f. option_caused why f.shape) l.1.features) ls)

-- ---- topologies

-- the layers over their arcs, of each arc the positions of these numbers; without lines and rings that are then small by a limit, and
-- without the arcs that no kept line uses
unfoldable pub assembled : List (List ℕ) → ℕ → Named → Contents
assembled kept limit ls = simplified_by kept limit (untrimmed 0 0 ls)

-- the lines and rings that are dropped, in reading order
unfoldable pub assembled_dropped : List (List ℕ) → ℕ → Named → List Dropped
assembled_dropped kept limit ls = layers_caused (cause_by kept limit ls) ls

-- how many positions are removed from the arcs that stay
unfoldable pub assembled_removed_count : List (List ℕ) → ℕ → Named → ℕ
assembled_removed_count kept limit ls = removed_count_by kept limit (untrimmed 0 0 ls)
