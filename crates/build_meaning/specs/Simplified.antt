-- Topologies of whose arcs only some cells are kept: the numbers of these are given, a list for each arc.
use Rattle.std.specs.Prelude.{◌≡◌, ℕ, ◌-◌, ℤ, Bool, List, [], ◌∷◌, Option, None, Some, length, map, if◌then◌else◌}
use Rattle.build_meaning.specs.Built.{positions_of}
use Rattle.build_meaning.specs.Expected.{is_small, unless}
use Rattle.build_meaning.specs.Trimming.{is_used, keep_from, trimmed}
use Rattle.geometry.specs.declared.address.Cause.{Cause}
use Rattle.geometry.specs.declared.address.Cause.TheVariants.{Small}
use Rattle.geometry.specs.declared.address.Dropped.{Dropped}
use Rattle.geometry.specs.Lists.{then_some, some_of}
use Rattle.geometry.specs.DropCauses.{drop_causes, dropped_of_layers}
use Rattle.geometry.specs.Paths.{Placed}
use Rattle.geometry.specs.Points.{Point}
use Rattle.geometry.specs.Pruning.{prune}
use Rattle.topojson_types.specs.declared.feature.TopoFeature.{TopoFeature}
use Rattle.topojson_types.specs.declared.object.TopoObject.{TopoObject}
use Rattle.topojson_types.specs.declared.object.TopoObject.TheVariants.{One, Many}
use Rattle.topojson_types.specs.Decoding.{placed_arcs}
use Rattle.geometry.specs.Joins.{at, arc_at, stitched, first_of, last_of}
use Rattle.topojson_types.specs.Topologies.{TopoShape, Contents, object_features}

-- ---- arcs

-- the elements of these numbers
abbrev pub retained : {X : Type 0} → List ℕ → List X → List X
retained is xs = some_of (at xs) is

-- of each arc the cells of these numbers
abbrev pub retained_arcs : List (List ℕ) → List (List Point) → List (List Point)
retained_arcs [] arcs = []
retained_arcs (is ∷ more) [] = []
retained_arcs (is ∷ more) (cells ∷ arcs) = retained is cells ∷ retained_arcs more arcs

-- numbers that begin with the first and end with the last of so many
abbrev pub FromFirstToLast : ℕ → List ℕ → Type 0
FromFirstToLast n is = (first_of is ≡ Some 0) × (last_of is ≡ Some (n - 1))

-- such numbers for each arc
abbrev pub EachFromFirstToLast : List (List ℕ) → List (List Point) → Type 0
EachFromFirstToLast [] [] = Unit {0}
EachFromFirstToLast [] (cells ∷ arcs) = ⊥
EachFromFirstToLast (is ∷ kept) [] = ⊥
EachFromFirstToLast (is ∷ kept) (cells ∷ arcs) = FromFirstToLast (length cells) is × EachFromFirstToLast kept arcs

-- ---- lines and rings

-- why a line or ring is dropped for its own sake: rebuilt of the reduced arcs it is small
abbrev pub small_cause : ℕ → List (List Point) → Bool → List ℤ → Option Cause
small_cause limit arcs closed refs = if is_small limit closed (stitched (map (arc_at arcs) refs)) then Some Small else None

-- the arc indexes of a line or ring, unless it is dropped
abbrev pub large_refs : ℕ → List (List Point) → Bool → List ℤ → Option (List ℤ)
large_refs limit arcs closed refs = unless (small_cause limit arcs closed refs) refs

-- ---- objects

-- what stands for the arc indexes of an open line (false) or a ring (true), if it is kept
abbrev pub Refs : Type 0
Refs = Bool → List ℤ → Option (List ℤ)

-- the feature with its identifier and its properties, and its shape pruned
abbrev pub feature_pruned : Refs → TopoFeature → TopoFeature
feature_pruned kept f = record { id = f.id; properties = f.properties; shape = then_some (prune (λ p. p) kept) f.shape }

abbrev pub object_pruned : Refs → TopoObject → TopoObject
object_pruned kept (One f) = One (feature_pruned kept f)
object_pruned kept (Many fs) = Many (map (feature_pruned kept) fs)

abbrev pub objects_pruned : Refs → List (List ℕ × TopoObject) → List (List ℕ × TopoObject)
objects_pruned kept os = map (λ o. (o.0, object_pruned kept o.1)) os

-- ---- topologies

-- of each arc the cells of these numbers, and without the lines and rings that are then small by a limit
abbrev pub retained_whole : List (List ℕ) → ℕ → Contents → Contents
retained_whole kept limit y =
    record { objects = objects_pruned (large_refs limit (placed_arcs y.transform (retained_arcs kept y.arcs))) y.objects; arcs = retained_arcs kept y.arcs; transform = y.transform }

-- of each arc the cells of these numbers, without the lines and rings that are then small, and without the arcs that no kept line uses
unfoldable pub simplified_by : List (List ℕ) → ℕ → Contents → Contents
simplified_by kept limit y = trimmed (retained_whole kept limit y)

-- the lines and rings of a shape that may be null that are dropped, and the ways to them
abbrev pub option_small : ℕ → List (List Point) → Option TopoShape → List (Placed Cause)
option_small limit arcs None = []
option_small limit arcs (Some s) = drop_causes (small_cause limit arcs) s

-- the lines and rings that are dropped, in reading order; an object stands in the place of a layer
unfoldable pub dropped_by : List (List ℕ) → ℕ → Contents → List Dropped
dropped_by kept limit y =
    dropped_of_layers 0 (map (λ o. map (λ f. option_small limit (placed_arcs y.transform (retained_arcs kept y.arcs)) f.shape) (object_features o.1)) y.objects)

-- how many positions are removed from the arcs that stay
unfoldable pub removed_count_by : List (List ℕ) → ℕ → Contents → ℕ
removed_count_by kept limit y = positions_of (keep_from (is_used (retained_whole kept limit y).objects) 0 y.arcs) - positions_of (simplified_by kept limit y).arcs
