-- What holds of each layer that is read.
use Rattle.std.proofs.Common.{◌≡◌, ℕ, ◌+◌, ◌<◌, ◌≤◌, Bool, true, List, [], ◌∷◌, map, Option, None, Some, Ok, arith}
use Rattle.std.specs.Prelude.{codes}
use Rattle.geojson_meaning.proofs.Names.{AllByRecursion, all_weaker, all_map, all_joined, IsInput, option_lines_and_rings, given, Yields, or_fail_is, IfThere, then_yields, give_yields, pure_yields, depth, array_of, HasNumbers, HasTexts, Json, no_counts, Featured, is_proper_option, feature_nesting, FeatureHasNumbers, option_points, features_points, FeatureHasTexts, Counts, feature, feature_element, typed_geometry, ShapesAreProper, InputsAlone, RingCloses, RingsClose, NothingDeeper, NumbersStay, TextsStay, features_from, collection_features, single_feature, bare, bare_feature, typed_features, features, layer, need, Reader, fault_in, pure, or_fail, within, WrongKind, GeoJsonType, GeometryType}
use Rattle.std.proofs.lemmas.List.Elements.{All-from_recursion}
use Rattle.geojson_meaning.specs.declared.types.GeoJsonType.TheVariants as type
use Rattle.geojson_meaning.proofs.Inside.{ShallowerMember, object_deep, need_part}
use Rattle.geojson_meaning.proofs.SoundFeatures.{IsPart, IsPartMember, IsSoundFeature, array_parts, object_parts, feature_yields, feature_element_yields, bare_sound}
use Rattle.geojson_meaning.proofs.SoundParts.{SoundIn}
use Rattle.geojson_meaning.proofs.SoundShapes.{typed_geometry_yields}

within_yields : {A : Type 0} (n : Option ℕ) (P : A → Type 0) (m : Reader A) → Yields P m → Yields P (within n m)
within_yields n P m h c d x e = h c d x (given (fault_in n) (m c) (x, d) e)

module _ (exact : Bool) (n : ℕ) (N T : Type 0) where
  abbrev SoundFeatures : List Featured → Type 0
  SoundFeatures = AllByRecursion (IsSoundFeature n N T)

  features_from_yield : (k : ℕ) (vs : List Json) → AllByRecursion (IsPart n N T) vs → Yields SoundFeatures (features_from exact k vs)
  unfolding features_from
  features_from_yield k [] h = give_yields SoundFeatures [] tt
  features_from_yield k (v ∷ vs) h =
      then_yields (IsSoundFeature n N T) SoundFeatures (within (Some k) (feature_element exact v)) _ (within_yields (Some k) (IsSoundFeature n N T) (feature_element exact v) (feature_element_yields exact n N T v h.0))
      (λ f hf. then_yields SoundFeatures SoundFeatures (features_from exact (k + 1) vs) _ (features_from_yield (k + 1) vs h.1)
      (λ fs hfs. give_yields SoundFeatures (f ∷ fs) (hf, hfs)))

  module _ (ms : List (List ℕ × Json)) (pos : 0 < n) (inside : AllByRecursion (IsPartMember n N T) ms) where
    collection_yields : Yields SoundFeatures (collection_features exact ms)
    unfolding collection_features
    collection_yields =
        then_yields _ SoundFeatures (within None (pure (need (codes "features") ms))) _ (within_yields None _ (pure (need (codes "features") ms)) (pure_yields (need (codes "features") ms)))
        (λ v e. then_yields _ SoundFeatures (within None (pure (or_fail WrongKind (array_of v)))) _ (within_yields None _ (pure (or_fail WrongKind (array_of v))) (pure_yields (or_fail WrongKind (array_of v))))
        (λ vs f. let part = need_part (IsPart n N T) (codes "features") ms v e inside in
        features_from_yield 0 vs (array_parts n N T v vs (or_fail_is WrongKind (array_of v) vs f) (omega (arith, part.0)) part.1 part.2)))

    single_yields : Yields SoundFeatures (single_feature exact ms)
    unfolding single_feature
    single_yields =
        then_yields (IsSoundFeature n N T) SoundFeatures (within (Some 0) (feature exact ms)) _ (within_yields (Some 0) (IsSoundFeature n N T) (feature exact ms) (feature_yields exact n N T ms pos inside))
        (λ f h. give_yields SoundFeatures (f ∷ []) (h, tt))

    bare_yields : (t : GeometryType) → Yields SoundFeatures (bare_feature exact t ms)
    unfolding bare_feature
    bare_yields t =
        then_yields (IfThere (SoundIn n)) SoundFeatures (within (Some 0) (typed_geometry exact t ms)) _
        (within_yields (Some 0) (IfThere (SoundIn n)) (typed_geometry exact t ms) (typed_geometry_yields exact t n ms (all_weaker (IsPartMember n N T) (ShallowerMember n) (λ m k. k.0) ms inside)))
        (λ s h. give_yields SoundFeatures (bare s ∷ []) (bare_sound n N T s pos h, tt))

    typed_yields : (t : GeoJsonType) → Yields SoundFeatures (typed_features exact t ms)
    unfolding typed_features
    typed_yields type.FeatureCollection = collection_yields
    typed_yields type.Feature = single_yields
    typed_yields (type.Geometry t) = bare_yields t

-- each feature keeps the rules of its kinds, is no deeper than the value, and has numbers alone, and texts that are UTF-8, where the value
-- does
pub features_yield : (exact : Bool) (v : Json) → Yields (AllByRecursion (IsSoundFeature (depth v) (HasNumbers v) (HasTexts v))) (features exact v)
unfolding features
features_yield exact v = grind (arith, then_yields, within_yields, pure_yields, or_fail_is, typed_yields, object_deep, object_parts)

pub layer_sound : (exact : Bool) (v : Json) (fs : List Featured) (c : Counts) → layer exact v ≡ Ok (fs, c) → AllByRecursion (IsSoundFeature (depth v) (HasNumbers v) (HasTexts v)) fs
unfolding layer
layer_sound exact v fs c e = features_yield exact v no_counts c fs e

-- ---- the laws

-- what holds of each feature that is read holds of all
module _ (P : Json → Featured → Type 0) (is : (v : Json) (f : Featured) → IsSoundFeature (depth v) (HasNumbers v) (HasTexts v) f → P v f) where
  each_feature : (exact : Bool) (v : Json) (fs : List Featured) (c : Counts) → layer exact v ≡ Ok (fs, c) → AllByRecursion (P v) fs
  each_feature exact v fs c e = all_weaker (IsSoundFeature (depth v) (HasNumbers v) (HasTexts v)) (P v) (is v) fs (layer_sound exact v fs c e)

pub shapes_are_proper : ShapesAreProper
shapes_are_proper = each_feature (λ v f. is_proper_option f.shape ≡ true) (λ v f h. (grind arith))

pub inputs_alone : InputsAlone
inputs_alone exact v fs c e =
    All-from_recursion IsInput (features_points fs) (all_joined IsInput (map (λ f. option_points f.shape) fs) (all_map (AllByRecursion IsInput) (λ f. option_points f.shape) fs
    (each_feature (λ v f. AllByRecursion IsInput (option_points f.shape)) (λ v f h. (grind arith)) exact v fs c e)))

pub rings_close : RingsClose
rings_close = each_feature (λ v f. AllByRecursion RingCloses (option_lines_and_rings f.shape)) (λ v f h. (grind arith))

pub nothing_deeper : NothingDeeper
nothing_deeper = each_feature (λ v f. feature_nesting f ≤ depth v) (λ v f h. h.nests)

pub numbers_stay : NumbersStay
numbers_stay exact v fs c n e = all_weaker (IsSoundFeature (depth v) (HasNumbers v) (HasTexts v)) FeatureHasNumbers (λ f h. h.numbers n) fs (layer_sound exact v fs c e)

pub texts_stay : TextsStay
texts_stay exact v fs c t e = all_weaker (IsSoundFeature (depth v) (HasNumbers v) (HasTexts v)) FeatureHasTexts (λ f h. h.texts t) fs (layer_sound exact v fs c e)
