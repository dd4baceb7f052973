-- The features that a topology stands for: TopoJSON 1.0, section 2.
use Rattle.std.specs.Prelude.{ℕ, zero, suc, ◌-◌, ℤ, Bool, List, [], ◌∷◌, ◌++◌, Option, None, Some, length, map, bytes_eq, if◌then◌else◌}
use Rattle.geojson_types.specs.declared.layer.FeatureSet.{FeatureSet}
use Rattle.geojson_types.specs.declared.layer.FeatureSet.TheVariants as set
use Rattle.geojson_types.specs.Features.{Shape, Featured}
use Rattle.geometry.specs.Lists.{map_some, then_some}
use Rattle.geometry.specs.Points.{Point}
use Rattle.geometry.specs.Pruning.{prune}
use Rattle.topojson_types.specs.declared.feature.TopoFeature.{TopoFeature}
use Rattle.topojson_types.specs.declared.object.TopoObject.{TopoObject}
use Rattle.topojson_types.specs.declared.object.TopoObject.TheVariants.{One, Many}
use Rattle.topojson_types.specs.declared.transform.Transform.{Transform}
use Rattle.geometry.specs.Joins.{arc_at, stitched}
use Rattle.topojson_types.specs.Topologies.{TopoShape, Contents}
use Rattle.topojson_types.specs.Transforms.{place, place_on}

-- a list of one element so many times
abbrev pub repeated : {X : Type 0} → ℕ → X → List X
repeated zero x = []
repeated (suc n) x = x ∷ repeated n x

-- four positions at least, filled up by the first
abbrev pub filled : List Point → List Point
filled [] = []
filled (p ∷ ps) = (p ∷ ps) ++ repeated (4 - length (p ∷ ps)) p

-- an open line stays, and a ring of fewer than four positions is filled up
abbrev pub completed : Bool → List Point → List Point
completed closed ps = if closed then filled ps else ps

-- the positions of the arcs that the indexes name, forwards or reversed, in a row
abbrev pub decoded_line : List (List Point) → Bool → List ℤ → List Point
decoded_line arcs closed refs = completed closed (stitched (map (arc_at arcs) refs))

-- each cell as where it lies, and each line and ring as the positions of its arcs
abbrev pub decoded_shape : (Point → Point) → List (List Point) → TopoShape → Option Shape
decoded_shape lies arcs s = prune lies (λ closed refs. Some (decoded_line arcs closed refs)) s

abbrev pub decoded_feature : (Point → Point) → List (List Point) → TopoFeature → Featured
decoded_feature lies arcs f = record { id = f.id; properties = f.properties; shape = then_some (decoded_shape lies arcs) f.shape }

-- a geometry object is a feature, and a collection is its members
abbrev pub decoded_object : (Point → Point) → List (List Point) → TopoObject → FeatureSet
decoded_object lies arcs (One f) = set.One (decoded_feature lies arcs f)
decoded_object lies arcs (Many fs) = set.Many (map (decoded_feature lies arcs) fs)

-- the first value of this name
abbrev pub of_name : {V : Type 0} → List ℕ → List (List ℕ × V) → Option V
of_name name [] = None
of_name name (m ∷ ms) = if bytes_eq m.0 name then Some m.1 else of_name name ms

-- the arcs as the positions that their cells stand for; without a transform these are the cells
abbrev pub placed_arcs : Option Transform → List (List Point) → List (List Point)
placed_arcs None arcs = arcs
placed_arcs (Some t) arcs = map (map (place_on t)) arcs

-- the features of the object of this name, if there is one
unfoldable pub decoded : Contents → List ℕ → Option FeatureSet
decoded t name = map_some (decoded_object (place t.transform) (placed_arcs t.transform t.arcs)) (of_name name t.objects)
