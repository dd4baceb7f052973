-- The objects of a valid topology, and the shapes of their features.
use Rattle.std.proofs.Common.{◌≡◌, ℕ, ℤ, Bool, true, List, [], ◌∷◌, map, length, Option, None, Some, ap, sym, ◌∙◌, if◌then◌else◌, arith}
use Rattle.std.specs.List.{AllByRecursion}
use Rattle.std.specs.Str.{bytes_eq}
use Rattle.geojson_types.specs.declared.layer.FeatureSet.{FeatureSet}
use Rattle.geojson_types.specs.declared.layer.FeatureSet.TheVariants as set
use Rattle.geojson_types.specs.Features.{Featured, is_some_list}
use Rattle.geometry.specs.Lists.{map_some}
use Rattle.geometry.proofs.Agreement.{all_left, all_right}
use Rattle.topojson_types.specs.declared.feature.TopoFeature.{TopoFeature}
use Rattle.topojson_types.specs.declared.object.TopoObject.{TopoObject}
use Rattle.topojson_types.specs.declared.object.TopoObject.TheVariants.{One, Many}
use Rattle.topojson_types.specs.Decoding.{decoded, decoded_feature, decoded_object, of_name, placed_arcs}
use Rattle.topojson_types.specs.Topologies.{Contents, object_features, features_lines_and_rings}
use Rattle.topojson_types.specs.Transforms.{place}
use Rattle.topojson_types.specs.Validity.{AreInRange, IsClosed, IsFeature, IsObject, IsTopology}
use Rattle.topojson_types.proofs.Parts.{parts_all}
use Rattle.topojson_types.specs.LinesAndRings.{IsLineOrRing, IsShapeOption}
use Rattle.topojson_types.proofs.Standing.{lines_and_rings_full}

-- ---- names

value_of : {V : Type 0} (X : V → Type 0) (b : Bool) (u : V) (later : Option V) (v : V) → (if b then Some u else later) ≡ Some v → X u → (later ≡ Some v → X v) → X v
value_of X b u later v h k m = grind arith

-- what holds of each value holds of the one of a name
of_named : {V : Type 0} (X : V → Type 0) (name : List ℕ) (os : List (List ℕ × V)) (v : V) → of_name name os ≡ Some v → AllByRecursion (λ o. X o.1) os → X v
of_named X name [] v e h = cc
of_named X name (o ∷ os) v e h = value_of X (bytes_eq o.0 name) o.1 (of_name name os) v e h.0 (λ k. of_named X name os v k h.1)

-- ---- the shapes of an object

module _ (t : Contents) (is : IsTopology t) where
  abbrev AreRanged : List (Bool × List ℤ) → Type 0
  AreRanged bs = AllByRecursion (λ b. AreInRange (length t.arcs) b.1) bs

  abbrev AreClosed : List (Bool × List ℤ) → Type 0
  AreClosed bs = AllByRecursion (IsClosed t.arcs) bs

  lines_and_rings_stand : (bs : List (Bool × List ℤ)) → AllByRecursion (λ b. is_some_list b.1 ≡ true) bs → AreRanged bs → AreClosed bs → AllByRecursion (IsLineOrRing t) bs
  lines_and_rings_stand [] f h k = tt
  lines_and_rings_stand (b ∷ bs) f h k = (record { topology = is; full = f.0; ranged = h.0; closed = k.0 }, lines_and_rings_stand bs f.1 h.1 k.1)

  features_stand : (fs : List TopoFeature) → AllByRecursion (IsFeature t.transform) fs → AreRanged (features_lines_and_rings fs) → AreClosed (features_lines_and_rings fs) → AllByRecursion (λ f. IsShapeOption t f.shape) fs
  features_stand [] f h k = tt
  features_stand (x ∷ fs) f h k = grind (arith, features_stand fs f.1, lines_and_rings_stand, lines_and_rings_full, all_left, all_right)

  pub object_stands : (name : List ℕ) (o : TopoObject) → of_name name t.objects ≡ Some o → AllByRecursion (λ f. IsShapeOption t f.shape) (object_features o)
  object_stands name o e =
      features_stand (object_features o)
      (grind (arith, (of_named (IsObject t.transform) name t.objects o e is.objects)))
      (of_named (λ o. AreRanged (features_lines_and_rings (object_features o))) name t.objects o e (parts_all (λ b. AreInRange (length t.arcs) b.1) (λ o. features_lines_and_rings (object_features o.1)) t.objects is.ranged))
      (of_named (λ o. AreClosed (features_lines_and_rings (object_features o))) name t.objects o e (parts_all (IsClosed t.arcs) (λ o. features_lines_and_rings (object_features o.1)) t.objects is.closed))

-- the shape of one, and those of many
abbrev Stand : Contents → TopoObject → Type 0
Stand t o = AllByRecursion (λ f. IsShapeOption t f.shape) (object_features o)

-- ---- what an object is decoded to

module _ (t : Contents) (name : List ℕ) where
  abbrev shown : TopoFeature → Featured
  shown = decoded_feature (place t.transform) (placed_arcs t.transform t.arcs)

  abbrev shown_object : TopoObject → FeatureSet
  shown_object = decoded_object (place t.transform) (placed_arcs t.transform t.arcs)

  pub decoded_one : (o : TopoObject) (f : TopoFeature) (d : Featured) → of_name name t.objects ≡ Some o → o ≡ One f → d ≡ shown f → decoded t name ≡ Some (set.One d)
  unfolding decoded
  decoded_one o f d e k made = ap (map_some shown_object) (e ∙ ap Some k) ∙ ap (λ x. Some (set.One x)) (sym made)

  pub decoded_many : (o : TopoObject) (fs : List TopoFeature) (ds : List Featured) → of_name name t.objects ≡ Some o → o ≡ Many fs → ds ≡ map shown fs → decoded t name ≡ Some (set.Many ds)
  unfolding decoded
  decoded_many o fs ds e k made = ap (map_some shown_object) (e ∙ ap Some k) ∙ ap (λ x. Some (set.Many x)) (sym made)

  pub decoded_none : of_name name t.objects ≡ None → decoded t name ≡ None
  unfolding decoded
  decoded_none e = ap (map_some shown_object) e
