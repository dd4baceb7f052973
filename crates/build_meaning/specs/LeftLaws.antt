-- What is true of what is left of a topology.
use Rattle.std.specs.Prelude.{◌≡◌, ℕ, ◌+◌, ◌<◌, ◌≤◌, max, ℤ, true, false, List, ◌∷◌, ◌++◌, None, Option, Some, map}
use Rattle.std.specs.List.{AllByRecursion}
use Rattle.geojson_types.specs.Nesting.{option_nesting, properties_nesting}
use Rattle.geometry.specs.Joins.{arc_at}
use Rattle.geometry.specs.Lists.{In}
use Rattle.geometry.specs.Paths.{Placed}
use Rattle.geometry.specs.Points.{Point}
use Rattle.grid_snap.specs.Axes.{Axes}
use Rattle.guarded_meaning.specs.Elimination.{Guard, reduce_arcs, reduced_arcs}
use Rattle.guarded_meaning.specs.Guards.{is_long}
use Rattle.guarded_meaning.specs.Lists.{EachTo}
use Rattle.topojson_types.specs.declared.feature.TopoFeature.{TopoFeature}
use Rattle.topojson_types.specs.Topologies.{TopoShape, Contents}
use Rattle.topojson_types.specs.Validity.{IsTopology}
use Rattle.build_meaning.specs.ArcPositions.{arc_positions, crossings_of}
use Rattle.build_meaning.specs.Built.{built, removed_count}
use Rattle.build_meaning.specs.BuiltLaws.{AreSound}
use Rattle.build_meaning.specs.Celled.{EachCell}
use Rattle.build_meaning.specs.GridLaws.{all_features}
use Rattle.build_meaning.specs.Layers.{Named}
use Rattle.build_meaning.specs.Left.{no_guards, protection_of, rings_to_stay, left_indexes, left_arcs, left_of}
use Rattle.build_meaning.specs.OuterRings.{outer_rings}
use Rattle.build_meaning.specs.Protected.{Protection, no_protection, enclosed, greatest_ring, protected_of, spared_whole, spared_by, spared_dropped, spared_removed_count}
use Rattle.build_meaning.specs.Quantized.{AreOn, IsGridIfSome, IsOn, quantized}
use Rattle.build_meaning.specs.Simplified.{EachFromFirstToLast, retained_arcs, simplified_by, dropped_by, removed_count_by}
use Rattle.build_meaning.specs.SimplifiedLaws.{labels}
use Rattle.build_meaning.specs.Thresholds.{reduced_indexes}
use Rattle.build_meaning.specs.Trimming.{is_used, keep_from}
use Rattle.build_meaning.specs.declared.guards.Guards.{Guards}

-- ---- the protected ring

-- where the outer ring has four positions or more, it encloses less than so much
abbrev pub EnclosesLess : List (List Point) → ℕ → Placed (List ℤ) → Type 0
EnclosesLess arcs size x = is_long arcs x.part ≡ true → enclosed arcs x.part < size

-- or not more than so much
abbrev pub EnclosesNoMore : List (List Point) → ℕ → Placed (List ℤ) → Type 0
EnclosesNoMore arcs size x = is_long arcs x.part ≡ true → enclosed arcs x.part ≤ size

-- It is one of the outer rings and has four positions or more. Of the others that have, those before it enclose less, and those after it
-- no more.
pub record IsGreatest (arcs : List (List Point)) (s : TopoShape) (x : Placed (List ℤ)) : Type 0 where
  pub before : List (Placed (List ℤ))
  pub after : List (Placed (List ℤ))
  pub outer : outer_rings s ≡ before ++ (x ∷ after)
  pub long : is_long arcs x.part ≡ true
  pub less : AllByRecursion (EnclosesLess arcs (enclosed arcs x.part)) before
  pub no_more : AllByRecursion (EnclosesNoMore arcs (enclosed arcs x.part)) after

abbrev pub GreatestRingIsGreatest : Type 0
GreatestRingIsGreatest = (arcs : List (List Point)) (s : TopoShape) (x : Placed (List ℤ)) → greatest_ring arcs s ≡ Some x → IsGreatest arcs s x

-- where a shape has none, no outer ring has four positions
abbrev pub NoneIsGreatest : Type 0
NoneIsGreatest = (arcs : List (List Point)) (s : TopoShape) → greatest_ring arcs s ≡ None → AllByRecursion (λ x. is_long arcs x.part ≡ false) (outer_rings s)

-- ---- where no ring is protected

-- it is what is left of the topology, with the same lines and rings dropped, and as many positions removed
pub record IsSimplified (kept : List (List ℕ)) (limit : ℕ) (y : Contents) : Type 0 where
  pub contents : spared_by no_protection kept limit y ≡ simplified_by kept limit y
  pub dropped : spared_dropped no_protection kept limit y ≡ dropped_by kept limit y
  pub removed_count : spared_removed_count no_protection kept limit y ≡ removed_count_by kept limit y

abbrev pub UnprotectedIsSimplified : Type 0
UnprotectedIsSimplified = (kept : List (List ℕ)) (limit : ℕ) (y : Contents) → IsSimplified kept limit y

-- ---- what stays, whichever rings are protected

-- a topology whose arcs keep their ends stays valid
abbrev pub SparedIsValid : Type 0
SparedIsValid = (protects : Protection) (kept : List (List ℕ)) (limit : ℕ) (y : Contents) → IsTopology y → EachFromFirstToLast kept y.arcs → IsTopology (spared_by protects kept limit y)

-- names, identifiers and properties stay, and the transform
abbrev pub SparedKeeps : Type 0
SparedKeeps = (protects : Protection) (kept : List (List ℕ)) (limit : ℕ) (y : Contents) →
    (labels (spared_by protects kept limit y) ≡ labels y) × ((spared_by protects kept limit y).transform ≡ y.transform)

-- where each position of a topology lies on the grid, so does each of what is left of it
abbrev pub SparedCellsAreOn : Type 0
SparedCellsAreOn = (g : Option Axes) (protects : Protection) (kept : List (List ℕ)) (limit : ℕ) (y : Contents) → EachCell (IsOn g) y → EachCell (IsOn g) (spared_by protects kept limit y)

-- features nest no deeper than before
abbrev pub SparedNestsNoDeeper : Type 0
SparedNestsNoDeeper = (n : ℕ) (protects : Protection) (kept : List (List ℕ)) (limit : ℕ) (y : Contents)
    → AllByRecursion (λ f. max (option_nesting f.shape) (1 + properties_nesting f.properties) ≤ n) (all_features y)
    → AllByRecursion (λ f. max (option_nesting f.shape) (1 + properties_nesting f.properties) ≤ n) (all_features (spared_by protects kept limit y))

-- ---- without guards

-- it is the topology with each arc reduced by itself, with the same lines and rings dropped, and as many positions removed
pub record IsSimplifiedEachByItself (t limit : ℕ) (y : Contents) : Type 0 where
  pub contents : (left_of no_guards t limit y).contents ≡ simplified_by (reduced_indexes t y) limit y
  pub dropped : (left_of no_guards t limit y).dropped ≡ dropped_by (reduced_indexes t y) limit y
  pub removed_count : (left_of no_guards t limit y).removed_count ≡ removed_count_by (reduced_indexes t y) limit y

abbrev pub UnguardedIsSimplified : Type 0
UnguardedIsSimplified = (t limit : ℕ) (y : Contents) → IsSimplifiedEachByItself t limit y

-- What is left of what is built of layers at a threshold and a limit of zero, put on the grid, is what is built of the layers, put on the grid; and as
-- many positions are removed.
pub record IsBuiltAtOnce (g : Option Axes) (t limit : ℕ) (ls : Named) : Type 0 where
  pub contents : (left_of no_guards t limit (quantized g (built 0 0 ls))).contents ≡ quantized g (built t limit ls)
  pub removed_count : (left_of no_guards t limit (quantized g (built 0 0 ls))).removed_count ≡ removed_count t limit ls

abbrev pub UnguardedIsBuilt : Type 0
UnguardedIsBuilt = (g : Option Axes) (t limit : ℕ) (ls : Named) → AreOn g ls → AreSound ls → IsBuiltAtOnce g t limit ls

-- ---- which arcs are left

-- the positions with the indexes that stay are those that stay
abbrev pub ArcsRetainedAreReduced : Type 0
ArcsRetainedAreReduced = (guard : Guard) (t : ℕ) (arcs : List (List Point)) → retained_arcs (reduce_arcs guard t arcs) arcs ≡ reduced_arcs guard t arcs

-- the arcs that are left are the reduced ones that a line uses that is kept
abbrev pub LeftArcsAreReduced : Type 0
LeftArcsAreReduced = (guards : Guards) (t limit : ℕ) (y : Contents) → arc_positions (left_of guards t limit y).contents
    ≡ keep_from (is_used (spared_whole (protection_of guards y) (left_indexes guards t y) limit y).objects) 0 (left_arcs guards t y)

-- the numbers of the cells that stay begin with the first and end with the last
abbrev pub LeftIndexesReach : Type 0
LeftIndexesReach = (guards : Guards) (t : ℕ) (y : Contents) → IsTopology y → EachFromFirstToLast (left_indexes guards t y) y.arcs

-- ---- what is left

-- a valid topology stays valid
abbrev pub LeftIsValid : Type 0
LeftIsValid = (guards : Guards) (t limit : ℕ) (y : Contents) → IsTopology y → IsTopology (left_of guards t limit y).contents

-- names, identifiers and properties stay, and the transform
abbrev pub LeftKeeps : Type 0
LeftKeeps = (guards : Guards) (t limit : ℕ) (y : Contents) →
    (labels (left_of guards t limit y).contents ≡ labels y) × ((left_of guards t limit y).contents.transform ≡ y.transform)

-- A topology each of whose positions lies on the grid has the same rings to stay on it. What is left of it there is what is left of it, put
-- on the grid, and as many positions are removed.
pub record IsAlikeOnGrid (guards : Guards) (g : Option Axes) (t limit : ℕ) (y : Contents) : Type 0 where
  pub rings : rings_to_stay guards (quantized g y) ≡ rings_to_stay guards y
  pub contents : (left_of guards t limit (quantized g y)).contents ≡ quantized g (left_of guards t limit y).contents
  pub removed_count : (left_of guards t limit (quantized g y)).removed_count ≡ (left_of guards t limit y).removed_count

abbrev pub LeftOnGrid : Type 0
LeftOnGrid = (guards : Guards) (g : Option Axes) (t limit : ℕ) (y : Contents) → IsGridIfSome g → y.transform ≡ None → EachCell (IsOn g) y → IsAlikeOnGrid guards g t limit y

-- ---- no crossings

-- no more pairs of segments meet badly than in the topology
abbrev pub CrossingsNeverRise : Type 0
CrossingsNeverRise = (guards : Guards) (t limit : ℕ) (y : Contents) → guards.no_crossings ≡ true → crossings_of (left_of guards t limit y).contents ≤ crossings_of y

-- where no two segments of the topology meet badly, none of what is left do
abbrev pub NoneStaysNone : Type 0
NoneStaysNone = (guards : Guards) (t limit : ℕ) (y : Contents) → guards.no_crossings ≡ true → crossings_of y ≡ 0 → crossings_of (left_of guards t limit y).contents ≡ 0

-- ---- shapes stay

-- What is left of a feature has an outer ring that is the ring of these arc indexes, of the same reduced arcs in the same directions, and it
-- has four positions or more.
pub record HasRing (reduced left : List (List Point)) (refs : List ℤ) (f : TopoFeature) : Type 0 where
  pub shape : TopoShape
  pub has_shape : f.shape ≡ Some shape
  pub ring : List ℤ
  pub is_outer : In ring (map (λ x. x.part) (outer_rings shape))
  pub is_same : map (arc_at left) ring ≡ map (arc_at reduced) refs
  pub is_long_ring : is_long left ring ≡ true

-- each feature that has a protected ring keeps it
abbrev pub KeepsRings : Guards → ℕ → ℕ → Contents → Type 0
KeepsRings guards t limit y =
    EachTo (λ after before. (refs : List ℤ) → protected_of (greatest_ring (arc_positions y)) before ≡ Some refs → HasRing (left_arcs guards t y) (arc_positions (left_of guards t limit y).contents) refs after)
    (all_features (left_of guards t limit y).contents) (all_features y)

-- so does each feature of a topology where shapes stay
abbrev pub ShapesStay : Type 0
ShapesStay = (guards : Guards) (t limit : ℕ) (y : Contents) → guards.keep_shapes ≡ true → KeepsRings guards t limit y
