-- Objects in which of each feature the ring at the end of its way stays. The ways are given in reading order, and a feature that comes after
-- the last of them has none.
use Rattle.std.specs.Prelude.{◌≡◌, ◌⊎◌, ℕ, List, [], ◌∷◌, Option, None, drop, length, map}
use Rattle.geometry.specs.Lists.{tail, then_some}
use Rattle.geometry.specs.Points.{Point}
use Rattle.geometry.specs.Pruning.{prune}
use Rattle.build_meaning.specs.OuterRings.{marked}
use Rattle.build_meaning.specs.Protected.{Protection, no_protection, MarkedRefs, sparing}
use Rattle.build_meaning.specs.Simplified.{Refs, large_refs}
use Rattle.topojson_types.specs.declared.feature.TopoFeature.{TopoFeature}
use Rattle.topojson_types.specs.declared.object.TopoObject.{TopoObject}
use Rattle.topojson_types.specs.declared.object.TopoObject.TheVariants.{One, Many}
use Rattle.topojson_types.specs.Topologies.{object_features}
use Rattle.topo_model.specs.Ways.{ways_of}

-- the way of each feature, if it has one
abbrev pub Ways : Type 0
Ways = List (Option (List ℕ))

-- the way of the first feature
abbrev pub first_way : Ways → Option (List ℕ)
first_way [] = None
first_way (way ∷ ways) = way

-- what is made of each element and its way, of which this is the list
abbrev pub by_ways : {A B : Type 0} → (Option (List ℕ) → A → B) → Ways → List A → List B
by_ways make ways [] = []
by_ways make ways (x ∷ xs) = make (first_way ways) x ∷ by_ways make (tail ways) xs

-- the ways of the features that come after so many features
abbrev pub ways_after : {A : Type 0} → Ways → List A → Ways
ways_after ways xs = drop (length xs) ways

-- what is made of each object and the ways of its features
abbrev pub by_object : {B : Type 0} → (Ways → List ℕ × TopoObject → B) → Ways → List (List ℕ × TopoObject) → List B
by_object make ways [] = []
by_object make ways (o ∷ os) = make ways o ∷ by_object make (ways_after ways (object_features o.1)) os

-- the feature with the ring at the end of the way marked, pruned, and with the cells of points replaced
abbrev pub feature_placed_along : (Point → Point) → MarkedRefs → Option (List ℕ) → TopoFeature → TopoFeature
feature_placed_along place kept way f = record { id = f.id; properties = f.properties; shape = then_some (λ s. prune place kept (marked s way)) f.shape }

-- the feature with the ring at the end of the way marked, pruned
abbrev pub feature_along : MarkedRefs → Option (List ℕ) → TopoFeature → TopoFeature
feature_along = feature_placed_along (λ p. p)

abbrev pub object_placed_along : (Point → Point) → MarkedRefs → Ways → TopoObject → TopoObject
object_placed_along place kept ways (One f) = One (feature_placed_along place kept (first_way ways) f)
object_placed_along place kept ways (Many fs) = Many (by_ways (feature_placed_along place kept) ways fs)

abbrev pub object_along : MarkedRefs → Ways → TopoObject → TopoObject
object_along = object_placed_along (λ p. p)

abbrev pub objects_placed_along : (Point → Point) → MarkedRefs → Ways → List (List ℕ × TopoObject) → List (List ℕ × TopoObject)
objects_placed_along place kept = by_object (λ ways o. (o.0, object_placed_along place kept ways o.1))

abbrev pub objects_along : MarkedRefs → Ways → List (List ℕ × TopoObject) → List (List ℕ × TopoObject)
objects_along = objects_placed_along (λ p. p)

-- without the lines and rings that are small by a limit where they are rebuilt of these arcs, but with the rings at the ends of ways
abbrev pub large_along : ℕ → List (List Point) → Ways → List (List ℕ × TopoObject) → List (List ℕ × TopoObject)
large_along limit arcs = objects_along (sparing (large_refs limit arcs))

-- ---- without ways

-- the feature pruned, and with the cells of points replaced
abbrev pub feature_placed : (Point → Point) → Refs → TopoFeature → TopoFeature
feature_placed place kept f = record { id = f.id; properties = f.properties; shape = then_some (prune place kept) f.shape }

abbrev pub object_placed : (Point → Point) → Refs → TopoObject → TopoObject
object_placed place kept (One f) = One (feature_placed place kept f)
object_placed place kept (Many fs) = Many (map (feature_placed place kept) fs)

abbrev pub objects_placed : (Point → Point) → Refs → List (List ℕ × TopoObject) → List (List ℕ × TopoObject)
objects_placed place kept os = map (λ o. (o.0, object_placed place kept o.1)) os

-- ---- protected rings

-- the ways lead to the protected rings of the features, or no ring is protected, and there are none
abbrev pub AreWays : Protection → Ways → List (List ℕ × TopoObject) → Type 0
AreWays protects ways os = (ways ≡ ways_of protects os) ⊎ ((protects ≡ no_protection) × (ways ≡ []))
