-- How much of the detail of the arcs stays.
use Rattle.std.specs.Prelude.{ℕ, ◌^◌, ◌*◌, ◌≤◌, ◌≡◌, Bool, true, ◌&&◌, nat_le, List, [], map, Option, None, Some, if◌then◌else◌}
use Rattle.effective_area.specs.Calls.{Call, calls_for}
use Rattle.effective_area.specs.Shares.{interior_weights, share}
use Rattle.effective_area.specs.Weights.{weights_of}
use Rattle.geometry.specs.Points.{Point}
use Rattle.geometry.specs.Units.{threshold_limit}
use Rattle.guarded_meaning.specs.Elimination.{Guard, reduce_arcs, reduced_arcs}
use Rattle.guarded_meaning.specs.Shares.{chosen}
use Rattle.guarded_meaning.specs.Weights.{interior_count}
use Rattle.topojson_types.specs.Topologies.{Contents}
use Rattle.build_meaning.specs.ArcPositions.{arc_positions}
use Rattle.build_meaning.specs.Left.{guard_of, is_at_once}
use Rattle.build_meaning.specs.declared.guards.Guards.{Guards}
use Rattle.layer_topology.specs.declared.level.Level.{Level}
use Rattle.layer_topology.specs.declared.level.Level.TheVariants.{Fixed, Share}

-- a threshold is twice an area, in square units; a share is p of q, which is from 1 to 10^9
abbrev pub is_level : Level → Bool
is_level (Fixed t) = nat_le t threshold_limit
is_level (Share p q) = nat_le 1 q && (nat_le q (10 ^ 9) && nat_le p q)

-- a topology may be simplified at this level: at any threshold, and by a share
abbrev pub is_simplifying_level : Level → Bool
is_simplifying_level (Fixed t) = true
is_simplifying_level (Share p q) = is_level (Share p q)

-- ---- thresholds

-- of arcs of which each is reduced by itself: the one that is given, or the greatest that keeps the share of their positions between the ends
abbrev pub threshold_at : Level → List (List Point) → ℕ
threshold_at (Fixed t) arcs = t
threshold_at (Share p q) arcs = share p q (interior_weights (map weights_of arcs))

-- of arcs that are reduced at once under a guard: the one that is given, or the greatest at which the share of their positions between the ends
-- stays, by the weights of the corners that go so without a threshold
abbrev pub threshold_by : Guard → Level → List (List Point) → ℕ
threshold_by guard (Fixed t) arcs = t
threshold_by guard (Share p q) arcs = chosen p q guard arcs

-- of such arcs the numbers of the positions that then stay
abbrev pub reduced_by : Guard → Level → List (List Point) → List (List ℕ)
reduced_by guard level arcs = reduce_arcs guard (threshold_by guard level arcs) arcs

-- of a topology where guards are asked for, and otherwise of these arcs
abbrev pub threshold_over : Guards → Level → Contents → List (List Point) → ℕ
threshold_over guards level y arcs = if is_at_once guards then threshold_by (guard_of guards y) level (arc_positions y) else threshold_at level arcs

-- of a topology
abbrev pub threshold_of : Guards → Level → Contents → ℕ
threshold_of guards level y = threshold_over guards level y (arc_positions y)

-- this threshold, where it was chosen for a share
abbrev pub chosen_for : Level → ℕ → Option ℕ
chosen_for (Fixed t) n = None
chosen_for (Share p q) n = Some n

-- ---- what is promised of a share

-- of the positions between the ends of the arcs before at least the share that is asked for is between the ends of the arcs after
abbrev pub KeepsShare : Level → List (List Point) → List (List Point) → Type 0
KeepsShare (Fixed t) before after = Unit {0}
KeepsShare (Share p q) before after = p * interior_count before ≤ q * interior_count after

-- where all are reduced at once, at least the share that is asked for stays of the positions between their ends
abbrev pub KeepsShareOf : Guards → Level → Contents → Type 0
KeepsShareOf guards level y =
    is_at_once guards ≡ true → KeepsShare level (arc_positions y) (reduced_arcs (guard_of guards y) (threshold_of guards level y) (arc_positions y))

-- ---- calls

-- what a reducer is asked for: to reduce each of these arcs at the threshold, in order, but nothing at a share, for which each arc is weighed once
-- in place of that, and nothing where all arcs are reduced at once
abbrev pub calls_at : Level → List (List Point) → List Call
calls_at (Fixed t) arcs = calls_for t arcs
calls_at (Share p q) arcs = []

abbrev pub calls_over : Guards → Level → List (List Point) → List Call
calls_over guards level arcs = if is_at_once guards then [] else calls_at level arcs
