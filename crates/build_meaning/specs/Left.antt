-- What is left of a topology: its arcs are reduced, all at once where crossings may not be made or shapes stay, by the positions that their
-- cells stand for; without the lines and rings that are then small, and without the arcs that no other line uses. Where nothing is asked for
-- each arc is reduced by itself.
use Rattle.std.specs.Prelude.{ℕ, ℤ, Bool, false, ◌||◌, List}
use Rattle.geometry.specs.declared.address.Dropped.{Dropped}
use Rattle.geometry.specs.Points.{Point}
use Rattle.guarded_meaning.specs.Elimination.{Guard, reduce_arcs, reduced_arcs}
use Rattle.guarded_meaning.specs.Guards.{guarded_by}
use Rattle.topojson_types.specs.Topologies.{Contents}
use Rattle.build_meaning.specs.ArcPositions.{arc_positions}
use Rattle.build_meaning.specs.Protected.{Protection, protection, protected_rings, spared_by, spared_dropped, spared_removed_count}
use Rattle.build_meaning.specs.declared.guards.Guards.{Guards}

-- ---- what is asked for

-- nothing is asked for
abbrev pub no_guards : Guards
no_guards = record { no_crossings = false; keep_shapes = false }

-- all arcs are reduced at once
abbrev pub is_at_once : Guards → Bool
is_at_once guards = guards.no_crossings || guards.keep_shapes

-- the ring of each feature that is protected, if one is: where shapes stay the one that encloses most
abbrev pub protection_of : Guards → Contents → Protection
protection_of guards y = protection guards.keep_shapes (arc_positions y)

-- the arc indexes of the rings that have to stay
abbrev pub rings_to_stay : Guards → Contents → List (List ℤ)
rings_to_stay guards y = protected_rings (protection_of guards y) y.objects

-- what holds corners
abbrev pub guard_of : Guards → Contents → Guard
guard_of guards y = guarded_by guards.no_crossings (rings_to_stay guards y)

-- ---- what is left

-- of each arc the numbers of the cells that stay at a threshold
abbrev pub left_indexes : Guards → ℕ → Contents → List (List ℕ)
left_indexes guards t y = reduce_arcs (guard_of guards y) t (arc_positions y)

-- of each arc the positions that stay
abbrev pub left_arcs : Guards → ℕ → Contents → List (List Point)
left_arcs guards t y = reduced_arcs (guard_of guards y) t (arc_positions y)

-- the topology that is left, the lines and rings that are dropped, in reading order, and how many positions are removed from the arcs that stay
pub record Left : Type 0 where
  pub contents : Contents
  pub dropped : List Dropped
  pub removed_count : ℕ

-- where of each arc the cells of these numbers stay, and these rings are protected: without the lines and rings that are then small by a limit
abbrev pub left_by : Protection → List (List ℕ) → ℕ → Contents → Left
left_by protects kept limit y = record {
  contents = spared_by protects kept limit y;
  dropped = spared_dropped protects kept limit y;
  removed_count = spared_removed_count protects kept limit y;
}

-- at a threshold, and by a limit of twice the area that a ring may enclose
unfoldable pub left_of : Guards → ℕ → ℕ → Contents → Left
left_of guards t limit y = left_by (protection_of guards y) (left_indexes guards t y) limit y
