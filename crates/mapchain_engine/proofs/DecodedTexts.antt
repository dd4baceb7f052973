-- What holds of the identifiers and properties of a topology holds of the features of its objects.
use Rattle.std.proofs.Common.{◌≡◌, ℕ, Bool, true, false, if◌then◌else◌, List, [], ◌∷◌, Option, Some, None, subst}
use Rattle.std.specs.Prelude.{bytes_eq}
use Rattle.std.specs.List.{AllByRecursion}
use Rattle.geojson_types.specs.declared.id.Id.{Id}
use Rattle.geojson_types.specs.declared.layer.FeatureSet.{FeatureSet}
use Rattle.geojson_types.specs.Features.{Featured}
use Rattle.topojson_writer.specs.Numbered.{features_of}
use Rattle.geometry.specs.Lists.{map_some}
use Rattle.geometry.specs.Points.{Point}
use Rattle.json_value.proofs.Yields.{IfThere}
use Rattle.json_value.specs.declared.json.Json.{Json}
use Rattle.owned_values.proofs.Elements.{all_left, all_map, all_right}
use Rattle.topojson_meaning.specs.Bounds.{objects_features}
use Rattle.topojson_types.specs.declared.feature.TopoFeature.{TopoFeature}
use Rattle.topojson_types.specs.declared.object.TopoObject.{TopoObject}
use Rattle.topojson_types.specs.declared.object.TopoObject.TheVariants.{One, Many}
use Rattle.topojson_types.specs.Decoding.{decoded_feature, decoded_object, of_name, placed_arcs, decoded}
use Rattle.topojson_types.specs.Topologies.{Contents, object_features}
use Rattle.topojson_types.specs.Transforms.{place}

module _ (I : Option Id → Type 0) (M : Option (List (List ℕ × Json)) → Type 0) where
  abbrev Before : TopoFeature → Type 0
  Before f = I f.id × M f.properties

  abbrev After : Featured → Type 0
  After f = I f.id × M f.properties

  abbrev Kept : TopoObject → Type 0
  Kept o = AllByRecursion Before (object_features o)

  named_keeps : (name : List ℕ) (os : List (List ℕ × TopoObject)) → AllByRecursion Before (objects_features os) → IfThere Kept (of_name name os)
  named_keeps name [] h = tt
  named_keeps name (o ∷ os) h = on (bytes_eq o.0 name) (all_left Before (object_features o.1) (objects_features os) h) (named_keeps name os (all_right Before (object_features o.1) (objects_features os) h))
    where
      on : (b : Bool) → Kept o.1 → IfThere Kept (of_name name os) → IfThere Kept (if b then Some o.1 else of_name name os)
      on true here later = here
      on false here later = later

  module _ (lies : Point → Point) (arcs : List (List Point)) where
    object_keeps : (o : TopoObject) → Kept o → AllByRecursion After (features_of (decoded_object lies arcs o))
    object_keeps (One f) h = h
    object_keeps (Many fs) h = all_map After (decoded_feature lies arcs) fs h

    option_keeps : (o : Option TopoObject) (features : FeatureSet) → map_some (decoded_object lies arcs) o ≡ Some features → IfThere Kept o → AllByRecursion After (features_of features)
    option_keeps None features e h = absurd cc
    option_keeps (Some o) features e h = let same : decoded_object lies arcs o ≡ features = cc in subst (λ z. AllByRecursion After (features_of z)) same (object_keeps o h)

  pub decoded_keeps : (t : Contents) (name : List ℕ) (features : FeatureSet) → decoded t name ≡ Some features → AllByRecursion Before (objects_features t.objects)
      → AllByRecursion After (features_of features)
  unfolding decoded
  decoded_keeps t name features e h = option_keeps (place t.transform) (placed_arcs t.transform t.arcs) (of_name name t.objects) features e (named_keeps name t.objects h)
