-- Topologies in which of each feature one ring is protected: it is never dropped, whatever is left of it and however little it encloses.
use Rattle.std.specs.Prelude.{ℕ, ◌-◌, nat_lt, ℤ, Bool, List, [], ◌∷◌, Option, None, Some, map, if◌then◌else◌}
use Rattle.std.specs.List.{filter}
use Rattle.build_meaning.specs.Built.{positions_of}
use Rattle.build_meaning.specs.Trimming.{is_used, keep_from, trimmed}
use Rattle.geometry.specs.Areas.{twice_ring_area}
use Rattle.geometry.specs.declared.address.Cause.{Cause}
use Rattle.geometry.specs.declared.address.Dropped.{Dropped}
use Rattle.geometry.specs.declared.shape.Geometry.{Geometry}
use Rattle.geometry.specs.DropCauses.{drop_causes, dropped_of_layers}
use Rattle.geometry.specs.Joins.{arc_at, stitched}
use Rattle.geometry.specs.Lists.{joined, map_some, then_some, some_of}
use Rattle.geometry.specs.Paths.{Placed}
use Rattle.geometry.specs.Points.{Point}
use Rattle.geometry.specs.Pruning.{prune}
use Rattle.guarded_meaning.specs.Guards.{is_long}
use Rattle.topojson_types.specs.declared.feature.TopoFeature.{TopoFeature}
use Rattle.topojson_types.specs.declared.object.TopoObject.{TopoObject}
use Rattle.topojson_types.specs.declared.object.TopoObject.TheVariants.{One, Many}
use Rattle.topojson_types.specs.Decoding.{placed_arcs}
use Rattle.topojson_types.specs.Topologies.{TopoShape, Contents, object_features}
use Rattle.build_meaning.specs.OuterRings.{outer_rings, marked}
use Rattle.build_meaning.specs.Simplified.{Refs, small_cause, large_refs, retained_arcs}

-- ---- the protected ring of a feature

-- which outer ring of a shape is protected, if one is, with the way to its polygon
abbrev pub Protection : Type 0
Protection = TopoShape → Option (Placed (List ℤ))

-- none is
abbrev pub no_protection : Protection
no_protection s = None

-- of the first and another the one of the greater number, the first where they are equal
abbrev pub greater : {X : Type 0} → (X → ℕ) → X → Option X → X
greater size x None = x
greater size x (Some y) = if nat_lt (size x) (size y) then y else x

-- the one of the greatest number, the first of equals
abbrev pub greatest : {X : Type 0} → (X → ℕ) → List X → Option X
greatest size [] = None
greatest size (x ∷ xs) = Some (greater size x (greatest size xs))

-- twice the area that a ring of these arcs encloses
abbrev pub enclosed : List (List Point) → List ℤ → ℕ
enclosed arcs refs = twice_ring_area (stitched (map (arc_at arcs) refs))

-- of the outer rings that have four positions or more, with equal neighbours as one, the one that encloses most, the first of equals
unfoldable pub greatest_ring : List (List Point) → Protection
greatest_ring arcs s = greatest (λ x. enclosed arcs x.part) (filter (λ x. is_long arcs x.part) (outer_rings s))

-- where shapes stay (true) that ring is protected, and otherwise none is
abbrev pub protection : Bool → List (List Point) → Protection
protection keep_shapes arcs = if keep_shapes then greatest_ring arcs else no_protection

-- ---- the protected rings of a topology

abbrev pub protected_of : Protection → TopoFeature → Option (List ℤ)
protected_of protects f = map_some (λ x. x.part) (then_some protects f.shape)

-- the arc indexes of the protected rings of all features, in reading order
abbrev pub protected_rings : Protection → List (List ℕ × TopoObject) → List (List ℤ)
protected_rings protects os = some_of (protected_of protects) (joined (map (λ o. object_features o.1) os))

-- ---- lines and rings, each with a mark or without

-- what stands for the arc indexes of an open line (false) or a ring (true) with a mark or without, if it is kept
abbrev pub MarkedRefs : Type 0
MarkedRefs = Bool → Bool × List ℤ → Option (List ℤ)

-- what stands for one without a mark is given, and one with a mark stays as it is
abbrev pub sparing : Refs → MarkedRefs
sparing kept closed l = if l.0 then Some l.1 else kept closed l.1

-- why one without a mark is dropped is given, and one with a mark isn't
abbrev pub cause_sparing : (Bool → List ℤ → Option Cause) → Bool → Bool × List ℤ → Option Cause
cause_sparing why closed l = if l.0 then None else why closed l.1

-- ---- objects

-- the shape with its protected ring marked
abbrev pub shape_marked : Protection → TopoShape → Geometry Point (Bool × List ℤ) (Bool × List ℤ)
shape_marked protects s = marked s (map_some (λ x. x.path) (protects s))

-- the feature with its identifier and its properties, and its marked shape pruned
abbrev pub feature_spared : Protection → MarkedRefs → TopoFeature → TopoFeature
feature_spared protects kept f = record { id = f.id; properties = f.properties; shape = then_some (λ s. prune (λ p. p) kept (shape_marked protects s)) f.shape }

abbrev pub object_spared : Protection → MarkedRefs → TopoObject → TopoObject
object_spared protects kept (One f) = One (feature_spared protects kept f)
object_spared protects kept (Many fs) = Many (map (feature_spared protects kept) fs)

abbrev pub objects_spared : Protection → MarkedRefs → List (List ℕ × TopoObject) → List (List ℕ × TopoObject)
objects_spared protects kept os = map (λ o. (o.0, object_spared protects kept o.1)) os

-- ---- topologies

-- of each arc the cells of these numbers, and without the lines and rings that are then small by a limit and not protected
abbrev pub spared_whole : Protection → List (List ℕ) → ℕ → Contents → Contents
spared_whole protects kept limit y =
    record { objects = objects_spared protects (sparing (large_refs limit (placed_arcs y.transform (retained_arcs kept y.arcs)))) y.objects; arcs = retained_arcs kept y.arcs; transform = y.transform }

-- and without the arcs that no kept line uses
unfoldable pub spared_by : Protection → List (List ℕ) → ℕ → Contents → Contents
spared_by protects kept limit y = trimmed (spared_whole protects kept limit y)

-- the lines and rings of a shape that may be null that are dropped, and the ways to them
abbrev pub option_unprotected : Protection → ℕ → List (List Point) → Option TopoShape → List (Placed Cause)
option_unprotected protects limit arcs None = []
option_unprotected protects limit arcs (Some s) = drop_causes (cause_sparing (small_cause limit arcs)) (shape_marked protects s)

-- the lines and rings that are dropped, in reading order; an object stands in the place of a layer
unfoldable pub spared_dropped : Protection → List (List ℕ) → ℕ → Contents → List Dropped
spared_dropped protects kept limit y =
    dropped_of_layers 0 (map (λ o. map (λ f. option_unprotected protects limit (placed_arcs y.transform (retained_arcs kept y.arcs)) f.shape) (object_features o.1)) y.objects)

-- how many positions are removed from the arcs that stay
unfoldable pub spared_removed_count : Protection → List (List ℕ) → ℕ → Contents → ℕ
spared_removed_count protects kept limit y =
    positions_of (keep_from (is_used (spared_whole protects kept limit y).objects) 0 y.arcs) - positions_of (spared_by protects kept limit y).arcs
