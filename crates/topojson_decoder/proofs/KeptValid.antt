-- Where of each feature of a valid topology its geometry alone is kept it is valid still.
use Rattle.std.proofs.Common.{◌≡◌, ℕ, List, [], ◌∷◌, ◌++◌, Option, refl, ap}
use Rattle.std.specs.Prelude.{map}
use Rattle.std.specs.List.{AllByRecursion}
use Rattle.geometry.specs.Pruning.{option_lines_and_rings}
use Rattle.topojson_types.specs.Topologies.{features_lines_and_rings, object_features, objects_lines_and_rings}
use Rattle.topojson_types.specs.Validity.{IsFeature, IsObject}
use Rattle.topojson_types.specs.declared.feature.TopoFeature.{TopoFeature}
use Rattle.topojson_types.specs.declared.object.TopoObject.{TopoObject}
use Rattle.topojson_types.specs.declared.object.TopoObject.TheVariants.{One, Many}
use Rattle.topojson_types.specs.declared.transform.Transform.{Transform}
use Rattle.topojson_decoder.specs.Kept.{ShapesStayValid, of_feature, of_named, of_object}
use Rattle.topojson_decoder.specs.declared.keeping.Keeping.TheVariants.{Shapes}
use Rattle.topojson_decoder.proofs.KeptParts.{names_kept}

-- the lines and rings stay
features_same : (fs : List TopoFeature) → features_lines_and_rings (map (of_feature Shapes) fs) ≡ features_lines_and_rings fs
features_same [] = refl
features_same (f ∷ fs) = ap (λ z. option_lines_and_rings f.shape ++ z) (features_same fs)

object_same : (o : TopoObject) → features_lines_and_rings (object_features (of_object Shapes o)) ≡ features_lines_and_rings (object_features o)
object_same (One f) = refl
object_same (Many fs) = features_same fs

objects_same : (os : List (List ℕ × TopoObject)) → objects_lines_and_rings (map (of_named Shapes) os) ≡ objects_lines_and_rings os
objects_same [] = refl
objects_same (o ∷ os) = rw (object_same o.1, objects_same os) refl

-- and so do features and objects
module _ (transform : Option Transform) where
  features_stay : (fs : List TopoFeature) → AllByRecursion (IsFeature transform) fs → AllByRecursion (IsFeature transform) (map (of_feature Shapes) fs)
  features_stay [] h = tt
  features_stay (f ∷ fs) h = (h.0, features_stay fs h.1)

  object_stays : (o : TopoObject) → IsObject transform o → IsObject transform (of_object Shapes o)
  object_stays (One f) h = h
  object_stays (Many fs) h = features_stay fs h

  objects_stay : (os : List (List ℕ × TopoObject)) → AllByRecursion (λ o. IsObject transform o.1) os → AllByRecursion (λ o. IsObject transform o.1) (map (of_named Shapes) os)
  objects_stay [] h = tt
  objects_stay (o ∷ os) h = (object_stays o.1 h.0, objects_stay os h.1)

pub shapes_stay_valid : ShapesStayValid
shapes_stay_valid t h = record {
  names = rw (names_kept Shapes t.objects) h.names;
  transform = h.transform;
  objects = objects_stay t.transform t.objects h.objects;
  arcs = h.arcs;
  ranged = rw (objects_same t.objects) h.ranged;
  joined = rw (objects_same t.objects) h.joined;
  closed = rw (objects_same t.objects) h.closed;
}
