-- What is left of a draft where guards are asked for, and what is small as it stands may go first.
use Rattle.std.specs.Prelude.{◌≡◌, ℕ, Bool, true, List, Option, None, Some, if◌then◌else◌}
use Rattle.build_meaning.specs.ArcPositions.{arc_positions}
use Rattle.build_meaning.specs.InTurn.{indexes_from_first, left_at_first}
use Rattle.build_meaning.specs.Left.{left_indexes, left_of}
use Rattle.build_meaning.specs.Simplified.{retained_arcs}
use Rattle.build_meaning.specs.Trimming.{is_used}
use Rattle.build_meaning.specs.declared.guards.Guards.{Guards}
use Rattle.byte_ends.specs.Ends.{saturated}
use Rattle.geometry.specs.declared.address.Dropped.{Dropped}
use Rattle.geometry.specs.Points.{Point}
use Rattle.layer_topology.specs.Levels.{chosen_for, threshold_of}
use Rattle.layer_topology.specs.declared.level.Level.{Level}
use Rattle.topo_model.specs.Along.{Ways, large_along}
use Rattle.topo_model.specs.Drops.{objects_drops}
use Rattle.topo_model.specs.Rebuilding.{Rebuilding}
use Rattle.topo_model.specs.Ways.{ways_under}
use Rattle.topojson_types.specs.declared.object.TopoObject.{TopoObject}
use Rattle.topojson_types.specs.Decoding.{placed_arcs}
use Rattle.topojson_types.specs.Topologies.{Contents}

-- what is reduced of a topology: where what is small goes first (true) what is left then, and else it as it is
abbrev pub reduced_of : Bool → Guards → ℕ → Contents → Contents
reduced_of first guards limit y = if first then left_at_first guards limit y else y

-- the threshold of that
abbrev pub threshold_in_turn : Bool → Guards → Level → ℕ → Contents → ℕ
threshold_in_turn first guards level limit y = threshold_of guards level (reduced_of first guards limit y)

-- and of each of all arcs of the topology the numbers of the cells that stay
abbrev pub indexes_for : Bool → Guards → Level → ℕ → Contents → List (List ℕ)
indexes_for first guards level limit y =
    if first then indexes_from_first guards (threshold_in_turn first guards level limit y) limit y else left_indexes guards (threshold_in_turn first guards level limit y) y

-- the arcs as they stand, by which lines and rings are judged first
abbrev pub judged_first : Bool → ℕ → List (List Point) → Option Rebuilding
judged_first first limit arcs = if first then Some (record { arcs = arcs; limit = limit }) else None

-- which arcs hold anything: where lines and rings are judged first those that are used by the ones that stay then, and else all
abbrev pub held_by : Option Rebuilding → Ways → List (List ℕ × TopoObject) → ℕ → Bool
held_by None ways os n = true
held_by (Some first) ways os n = is_used (large_along first.limit first.arcs ways os) n

-- A topology, the lines and rings that are dropped, a count of positions and a threshold are those of what is left of a draft that stands for this
-- topology.
pub record IsLeftInTurn (first : Bool) (guards : Guards) (level : Level) (limit : ℕ) (os : List (List ℕ × TopoObject)) (y topology : Contents) (dropped : List Dropped) (removed_count : ℕ) (chosen : Option ℕ) : Type 0 where
  pub topology_is : topology ≡ (left_of guards (threshold_in_turn first guards level limit y) limit (reduced_of first guards limit y)).contents
  pub dropped_are : dropped ≡ objects_drops
      (record { first = judged_first first limit (arc_positions y); later = record { arcs = placed_arcs y.transform (retained_arcs (indexes_for first guards level limit y) y.arcs); limit = limit } })
      0 (ways_under guards.keep_shapes (arc_positions y) os) os
  pub count_is : removed_count ≡ saturated (left_of guards (threshold_in_turn first guards level limit y) limit (reduced_of first guards limit y)).removed_count
  pub chosen_is : chosen ≡ chosen_for level (threshold_in_turn first guards level limit y)
