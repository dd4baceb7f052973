-- The features of what is built of layers: nothing nests deeper than in the layers, and number texts and other texts stay.
use Rattle.std.proofs.Common.{◌≡◌, ℕ, ◌≤◌, List, [], ◌∷◌, map, Option, refl, ap, arith, sym, subst, ◌∙◌}
use Rattle.std.specs.List.{AllByRecursion}
use Rattle.build_meaning.proofs.Renumbered.{kept_in, built_objects}
use Rattle.build_meaning.specs.Built.{built}
use Rattle.build_meaning.specs.Layers.{Named, names_of}
use Rattle.build_meaning.specs.Objects.{Kept, features_by, objects_by}
use Rattle.geojson_types.proofs.Nestings.{option_pruned_nests}
use Rattle.geojson_types.specs.Features.{Featured}
use Rattle.geojson_types.specs.Nesting.{feature_nesting}
use Rattle.geojson_types.specs.Numbers.{FeatureHasNumbers}
use Rattle.geojson_types.specs.Texts.{FeatureHasTexts}
use Rattle.build_meaning.specs.GridLaws.{EachFeature}
use Rattle.owned_values.proofs.Elements.{all_append}
use Rattle.topojson_meaning.specs.Bounds as bounds
use Rattle.topojson_meaning.specs.Texts as texts
use Rattle.topojson_types.specs.declared.feature.TopoFeature.{TopoFeature}
use Rattle.topojson_types.specs.declared.object.TopoObject.{TopoObject}
use Rattle.topojson_types.specs.Topologies.{TopoShape}

module _ (kept : Kept) where
  features_stay : (X : Featured → Type 0) (Y : TopoFeature → Type 0) → ((f : Featured) (s : Option TopoShape) → X f → Y (record { id = f.id; properties = f.properties; shape = s }))
      → (fs : List Featured) → AllByRecursion X fs → AllByRecursion Y (features_by kept fs)
  features_stay X Y stays [] h = tt
  features_stay X Y stays (f ∷ fs) h = (stays f _ h.0, features_stay X Y stays fs h.1)

  objects_stay : (X : Featured → Type 0) (Y : TopoFeature → Type 0) → ((f : Featured) (s : Option TopoShape) → X f → Y (record { id = f.id; properties = f.properties; shape = s }))
      → (ls : Named) → EachFeature X ls → AllByRecursion Y (bounds.objects_features (objects_by kept ls))
  objects_stay X Y stays [] h = tt
  objects_stay X Y stays (l ∷ ls) h =
      all_append Y (features_by kept l.1.features) (bounds.objects_features (objects_by kept ls)) (features_stay X Y stays l.1.features h.0) (objects_stay X Y stays ls h.1)

  features_nest : (n : ℕ) (fs : List Featured) → AllByRecursion (λ f. feature_nesting f ≤ n) fs → AllByRecursion (λ f. bounds.feature_nesting f ≤ n) (features_by kept fs)
  features_nest n [] h = tt
  features_nest n (f ∷ fs) h = (omega (arith, h.0, option_pruned_nests (λ p. p) kept f.shape), features_nest n fs h.1)

  objects_nest : (n : ℕ) (ls : Named) → EachFeature (λ f. feature_nesting f ≤ n) ls → AllByRecursion (λ f. bounds.feature_nesting f ≤ n) (bounds.objects_features (objects_by kept ls))
  objects_nest n [] h = tt
  objects_nest n (l ∷ ls) h =
      all_append (λ f. bounds.feature_nesting f ≤ n) (features_by kept l.1.features) (bounds.objects_features (objects_by kept ls)) (features_nest n l.1.features h.0) (objects_nest n ls h.1)

  names_kept : (ls : Named) → map (λ o. o.0) (objects_by kept ls) ≡ names_of ls
  names_kept [] = refl
  names_kept (l ∷ ls) = ap (λ ns. l.0 ∷ ns) (names_kept ls)

pub built_numbers : (t limit : ℕ) (ls : Named) → EachFeature FeatureHasNumbers ls → AllByRecursion bounds.FeatureHasNumbers (bounds.objects_features (built t limit ls).objects)
built_numbers t limit ls h = subst (λ os. AllByRecursion bounds.FeatureHasNumbers (bounds.objects_features os)) (sym (built_objects t limit ls))
    (objects_stay (kept_in t limit ls) FeatureHasNumbers bounds.FeatureHasNumbers (λ f s k. k) ls h)

pub built_texts : (t limit : ℕ) (ls : Named) → EachFeature FeatureHasTexts ls → AllByRecursion texts.FeatureHasTexts (bounds.objects_features (built t limit ls).objects)
built_texts t limit ls h = subst (λ os. AllByRecursion texts.FeatureHasTexts (bounds.objects_features os)) (sym (built_objects t limit ls))
    (objects_stay (kept_in t limit ls) FeatureHasTexts texts.FeatureHasTexts (λ f s k. k) ls h)

pub built_nests : (t limit n : ℕ) (ls : Named) → EachFeature (λ f. feature_nesting f ≤ n) ls → AllByRecursion (λ f. bounds.feature_nesting f ≤ n) (bounds.objects_features (built t limit ls).objects)
built_nests t limit n ls h = subst (λ os. AllByRecursion (λ f. bounds.feature_nesting f ≤ n) (bounds.objects_features os)) (sym (built_objects t limit ls)) (objects_nest (kept_in t limit ls) n ls h)

pub built_names : (t limit : ℕ) (ls : Named) → map (λ o. o.0) (built t limit ls).objects ≡ names_of ls
built_names t limit ls = ap (map (λ (o : List ℕ × TopoObject). o.0)) (built_objects t limit ls) ∙ names_kept (kept_in t limit ls) ls
