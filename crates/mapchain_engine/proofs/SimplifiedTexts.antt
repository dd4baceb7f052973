-- What holds of the names, identifiers and properties of a topology holds of those of another with the same.
use Rattle.std.proofs.Common.{◌≡◌, ℕ, List, [], ◌∷◌, map, Option, subst, sym}
use Rattle.std.specs.Prelude.{IsUtf8}
use Rattle.std.specs.List.{AllByRecursion}
use Rattle.geojson_types.specs.declared.id.Id.{Id}
use Rattle.geojson_types.specs.Numbers.{IdHasNumbers, PropertiesHaveNumbers}
use Rattle.geojson_types.specs.Texts.{IdHasTexts, PropertiesHaveTexts}
use Rattle.json_value.specs.declared.json.Json.{Json}
use Rattle.build_meaning.specs.SimplifiedLaws.{labels}
use Rattle.owned_values.proofs.Elements.{all_left, all_map, all_of_map, all_parts, all_right, all_weaker}
use Rattle.topojson_meaning.specs.Bounds.{objects_features}
use Rattle.topojson_meaning.specs.Laws.{FeaturesHaveNumbers}
use Rattle.topojson_meaning.specs.Texts.{ContentsHaveTexts}
use Rattle.topojson_types.specs.declared.feature.TopoFeature.{TopoFeature}
use Rattle.topojson_types.specs.declared.object.TopoObject.{TopoObject}
use Rattle.topojson_types.specs.Topologies.{Contents, object_features}

abbrev Label : Type 0
Label = Option Id × Option (List (List ℕ × Json))

abbrev label : TopoFeature → Label
label f = (f.id, f.properties)

abbrev named : List ℕ × TopoObject → List ℕ × List Label
named o = (o.0, map label (object_features o.1))

-- of names, identifiers and properties
module _ (N : List ℕ → Type 0) (I : Option Id → Type 0) (M : Option (List (List ℕ × Json)) → Type 0) where
  abbrev OfLabel : Label → Type 0
  OfLabel l = I l.0 × M l.1

  abbrev OfFeature : TopoFeature → Type 0
  OfFeature f = I f.id × M f.properties

  abbrev OfNamed : List ℕ × List Label → Type 0
  OfNamed o = N o.0 × AllByRecursion OfLabel o.1

  abbrev OfObject : List ℕ × TopoObject → Type 0
  OfObject o = N o.0 × AllByRecursion OfFeature (object_features o.1)

  same_labels : (before after : Contents) → labels after ≡ labels before → AllByRecursion OfObject before.objects → AllByRecursion OfObject after.objects
  same_labels before after same h =
      let reported = all_map OfNamed named before.objects (all_weaker OfObject (λ o. OfNamed (named o)) (λ o k. (k.0, all_map OfLabel label (object_features o.1) k.1)) before.objects h) in
      all_weaker (λ o. OfNamed (named o)) OfObject (λ o k. (k.0, all_of_map OfLabel label (object_features o.1) k.1)) after.objects
      (all_of_map OfNamed named after.objects (subst (AllByRecursion OfNamed) (sym same) reported))

  by_objects : (os : List (List ℕ × TopoObject)) → AllByRecursion (λ (o : List ℕ × TopoObject). N o.0) os → AllByRecursion OfFeature (objects_features os) → AllByRecursion OfObject os
  by_objects [] h k = tt
  by_objects (o ∷ os) h k =
      ((h.0, all_left OfFeature (object_features o.1) (objects_features os) k), by_objects os h.1 (all_right OfFeature (object_features o.1) (objects_features os) k))

  features_are : (os : List (List ℕ × TopoObject)) → AllByRecursion OfObject os → AllByRecursion OfFeature (objects_features os)
  features_are os h = all_parts OfFeature (λ o. object_features o.1) os (all_weaker OfObject (λ o. AllByRecursion OfFeature (object_features o.1)) (λ o k. k.1) os h)

trivial : (os : List (List ℕ × TopoObject)) → AllByRecursion (λ (o : List ℕ × TopoObject). Unit {0}) os
trivial [] = tt
trivial (o ∷ os) = (tt, trivial os)

module _ (before after : Contents) (same : labels after ≡ labels before) where
  pub numbers_kept : FeaturesHaveNumbers before → FeaturesHaveNumbers after
  numbers_kept h =
      features_are (λ n. Unit {0}) IdHasNumbers PropertiesHaveNumbers after.objects
      (same_labels (λ n. Unit {0}) IdHasNumbers PropertiesHaveNumbers before after same (by_objects (λ n. Unit {0}) IdHasNumbers PropertiesHaveNumbers before.objects (trivial before.objects) h))

  pub texts_kept : ContentsHaveTexts before → ContentsHaveTexts after
  texts_kept h =
      let all = same_labels (λ n. IsUtf8 n) IdHasTexts PropertiesHaveTexts before after same (by_objects (λ n. IsUtf8 n) IdHasTexts PropertiesHaveTexts before.objects h.names h.features) in
      record {
        names = all_weaker (OfObject (λ n. IsUtf8 n) IdHasTexts PropertiesHaveTexts) (λ o. IsUtf8 o.0) (λ o k. k.0) after.objects all;
        features = features_are (λ n. IsUtf8 n) IdHasTexts PropertiesHaveTexts after.objects all;
      }
