-- What is true of what is left of a topology where small rings go first.
use Rattle.std.specs.Prelude.{◌≡◌, ℕ, ◌≤◌, ℤ, true, List, Option, None, Some, map}
use Rattle.geometry.specs.Lists.{map_some}
use Rattle.geometry.specs.Points.{Point}
use Rattle.grid_snap.specs.Axes.{Axes}
use Rattle.guarded_meaning.specs.Lists.{EachTo}
use Rattle.topojson_types.specs.Decoding.{placed_arcs}
use Rattle.topojson_types.specs.Topologies.{Contents}
use Rattle.topojson_types.specs.Validity.{IsTopology}
use Rattle.build_meaning.specs.ArcPositions.{arc_positions, crossings_of}
use Rattle.build_meaning.specs.Built.{untrimmed, built}
use Rattle.build_meaning.specs.BuiltLaws.{AreSound}
use Rattle.build_meaning.specs.Celled.{EachCell}
use Rattle.build_meaning.specs.Expected.{unless}
use Rattle.build_meaning.specs.GridLaws.{all_features}
use Rattle.build_meaning.specs.InTurn.{first_whole, left_at_first, without_small, indexes_from_first, indexes_in_turn, cause_in_turn, left_in_turn}
use Rattle.build_meaning.specs.Layers.{Named}
use Rattle.build_meaning.specs.Left.{protection_of, rings_to_stay, left_indexes, left_of}
use Rattle.build_meaning.specs.LeftLaws.{HasRing}
use Rattle.build_meaning.specs.Protected.{greatest_ring, protected_of, objects_spared, sparing, spared_by, spared_removed_count}
use Rattle.build_meaning.specs.Quantized.{IsGridIfSome, IsOn, quantized}
use Rattle.build_meaning.specs.Simplified.{Refs, EachFromFirstToLast, retained_arcs, small_cause, large_refs}
use Rattle.build_meaning.specs.SimplifiedLaws.{labels}
use Rattle.build_meaning.specs.Trimming.{is_used, renumbered}
use Rattle.build_meaning.specs.declared.guards.Guards.{Guards}

-- ---- at first

-- where small rings go first it is what is left at a threshold of zero
abbrev pub FirstIsLeftAtZero : Type 0
FirstIsLeftAtZero = (guards : Guards) (limit : ℕ) (y : Contents) → left_at_first guards limit y ≡ (left_of guards 0 limit y).contents

-- what goes first of what is built of layers at zero goes first of them over all their arcs
abbrev pub FirstOfBuilt : Type 0
FirstOfBuilt = (guards : Guards) (limit : ℕ) (ls : Named) → AreSound ls → left_at_first guards limit (built 0 0 ls) ≡ left_at_first guards limit (untrimmed 0 0 ls)

-- in each feature the same ring is protected
abbrev pub SameRingsAtFirst : Type 0
SameRingsAtFirst = (guards : Guards) (limit : ℕ) (y : Contents) → guards.keep_shapes ≡ true →
    EachTo (λ after before. protected_of (greatest_ring (arc_positions (left_at_first guards limit y))) after
    ≡ map_some (map (renumbered (is_used (first_whole guards limit y).objects))) (protected_of (greatest_ring (arc_positions y)) before))
    (all_features (left_at_first guards limit y)) (all_features y)

abbrev pub SameRingsStay : Type 0
SameRingsStay = (guards : Guards) (limit : ℕ) (y : Contents)
    → rings_to_stay guards (left_at_first guards limit y) ≡ map (map (renumbered (is_used (first_whole guards limit y).objects))) (rings_to_stay guards y)

-- ---- at once

-- the arc indexes of a line or ring, unless it is small as it is rebuilt of the first arcs, or of the others
abbrev pub refs_in_turn : ℕ → List (List Point) → List (List Point) → Refs
refs_in_turn limit first later closed refs = unless (cause_in_turn None (small_cause limit first closed refs) (small_cause limit later closed refs)) refs

-- What is left of what is left at first is left at once, where each line and ring is looked at as it stood and as it is left, of the topology with all
-- its arcs: the arcs that go first stay whole.
pub record IsLeftAtOnce (guards : Guards) (t limit : ℕ) (y : Contents) : Type 0 where
  pub objects : (arcs : List (List Point)) → objects_spared (protection_of guards y) (sparing (refs_in_turn limit (arc_positions y) arcs)) y.objects
      ≡ objects_spared (protection_of guards (first_whole guards limit y)) (sparing (large_refs limit arcs)) (first_whole guards limit y).objects
  pub arcs : (first_whole guards limit y).arcs ≡ y.arcs
  pub contents : EachFromFirstToLast (left_indexes guards t (left_at_first guards limit y)) (left_at_first guards limit y).arcs
      → (left_of guards t limit (left_at_first guards limit y)).contents ≡ spared_by (protection_of guards (first_whole guards limit y)) (indexes_from_first guards t limit y) limit (first_whole guards limit y)
  pub removed_count : EachFromFirstToLast (left_indexes guards t (left_at_first guards limit y)) (left_at_first guards limit y).arcs
      → (left_of guards t limit (left_at_first guards limit y)).removed_count ≡ spared_removed_count (protection_of guards (first_whole guards limit y)) (indexes_from_first guards t limit y) limit (first_whole guards limit y)

abbrev pub InTurnIsAtOnce : Type 0
InTurnIsAtOnce = (guards : Guards) (t limit : ℕ) (y : Contents) → IsLeftAtOnce guards t limit y

-- ---- what is left

-- what is left at first of a valid topology is valid, and so it is without what is small
pub record StaysValid (guards : Guards) (limit : ℕ) (y : Contents) : Type 0 where
  pub whole : IsTopology (first_whole guards limit y)
  pub at_first : IsTopology (left_at_first guards limit y)
  pub without_small : IsTopology (without_small guards limit y)

abbrev pub WithoutSmallIsValid : Type 0
WithoutSmallIsValid = (guards : Guards) (limit : ℕ) (y : Contents) → IsTopology y → StaysValid guards limit y

-- names, identifiers and properties stay, and the transform
abbrev pub WithoutSmallKeeps : Type 0
WithoutSmallKeeps = (guards : Guards) (limit : ℕ) (y : Contents) → (labels (without_small guards limit y) ≡ labels y) × ((without_small guards limit y).transform ≡ y.transform)

-- on the grid it is the same, put on the grid
abbrev pub WithoutSmallOnGrid : Type 0
WithoutSmallOnGrid = (guards : Guards) (g : Option Axes) (limit : ℕ) (y : Contents) → IsGridIfSome g → y.transform ≡ None → EachCell (IsOn g) y
    → (without_small guards limit (quantized g y) ≡ quantized g (without_small guards limit y)) × EachCell (IsOn g) (without_small guards limit y)

-- no more pairs of segments meet badly than of the topology, and none where none of that do
abbrev pub WithoutSmallCrossesNoMore : Type 0
WithoutSmallCrossesNoMore = (guards : Guards) (limit : ℕ) (y : Contents) → guards.no_crossings ≡ true → crossings_of (without_small guards limit y) ≤ crossings_of y

-- Each feature that has a protected ring keeps it: what is left of it has an outer ring of the same arcs, as they are reduced, in the same directions,
-- and it has four positions or more.
abbrev pub ShapesStayInTurn : Type 0
ShapesStayInTurn = (guards : Guards) (t limit : ℕ) (y : Contents) → guards.keep_shapes ≡ true → IsTopology y →
    EachTo (λ after before. (refs : List ℤ) → protected_of (greatest_ring (arc_positions y)) before ≡ Some refs
    → HasRing (placed_arcs y.transform (retained_arcs (indexes_in_turn guards t limit y) y.arcs)) (arc_positions (left_in_turn guards t limit y).contents) refs after)
    (all_features (left_in_turn guards t limit y).contents) (all_features y)
