-- The objects that are written are read back.
use Rattle.std.proofs.Common.{◌≡◌, ◌≢◌, ℕ, ◌<◌, true, false, List, [], ◌∷◌, length, map, Option, refl, arith}
use Rattle.std.specs.Prelude.{codes, ◌^◌}
use Rattle.topojson_meaning.proofs.Names.{AllByRecursion, all_weaker, Point, IsArc, AreDistinct, is_single_option, TopoFeature, TopoObject, One, Many, Transform, geometry_type, named, need, features, collection, single, object, is_met, objects_after, objects, Collection}
use Rattle.std.proofs.lemmas.Slice.Eq.{bytes_eq-Decides}
use Rattle.json_value.specs.declared.json.Json.TheVariants as j
use Rattle.topojson_types.specs.Values.{Members, cell_value, feature_value, object_value, objects_value}
use Rattle.topojson_meaning.proofs.ArcsBack.{array_elements, object_members}
use Rattle.topojson_meaning.proofs.FeaturesBack.{feature_members, FineFeature, shaped, feature_back}
use Rattle.topojson_meaning.proofs.ShapesBack.{named_type}
use Rattle.topojson_meaning.proofs.Steps.{Gives, pure_gives, each_gives}

-- its features are, and one alone is no collection
abbrev pub FineObject : Option Transform → List (List Point) → TopoObject → Type 0
FineObject transform arcs (One f) = FineFeature transform arcs f × (is_single_option f.shape ≡ true)
FineObject transform arcs (Many fs) = AllByRecursion (FineFeature transform arcs) fs

module _ (transform : Option Transform) (arcs : List (List Point)) (long : AllByRecursion (IsArc transform) arcs) (few : length arcs < 2 ^ 63) where
  -- ---- one object

  features_back : (fs : List TopoFeature) → AllByRecursion (FineFeature transform arcs) fs → Gives (features transform arcs (j.Array (map (feature_value (cell_value transform)) fs))) fs
  unfolding features
  features_back fs h = grind (arith, pure_gives, array_elements, each_gives, FineFeature, feature_back)

  -- the members of a collection
  abbrev collected : List TopoFeature → Members
  collected fs = (codes "type", j.Text (codes "GeometryCollection")) ∷ ((codes "geometries", j.Array (map (feature_value (cell_value transform)) fs)) ∷ [])

  collection_back : (fs : List TopoFeature) → AllByRecursion (FineFeature transform arcs) fs → Gives (collection transform arcs (collected fs)) (Many fs)
  unfolding collection need named
  collection_back fs h c = rw (features_back fs h c) refl

  object_back : (o : TopoObject) → FineObject transform arcs o → Gives (object transform arcs (object_value (cell_value transform) o)) o
  unfolding object single geometry_type need named
  object_back (One f) h = λ c. grind (
    arith,
    shaped transform arcs long few f.id f.properties f.shape h.0.0.0 h.0.0.1 h.0.1,
    feature_members f.id f.properties,
    object_members,
  )
  object_back (Many fs) h = λ c. rw (
    object_members (collected fs),
    named_type (collected fs)
        (codes "GeometryCollection") Collection refl refl,
    collection_back fs h c,
  ) refl

  -- ---- objects by name

  unmet : (name : List ℕ) (met : List (List ℕ)) → AllByRecursion (λ n. n ≢ name) met → is_met name met ≡ false
  unmet name [] h = refl
  unmet name (n ∷ met) h = grind (arith, bytes_eq-Decides, unmet name met h.1)

  -- none of these names is the name of one of these objects
  abbrev AreNew : List (List ℕ) → List (List ℕ) → Type 0
  AreNew met names = AllByRecursion (λ n. AllByRecursion (λ y. n ≢ y) names) met

  after_back : (met : List (List ℕ)) (os : List (List ℕ × TopoObject)) → AreNew met (map (λ o. o.0) os) → AreDistinct (map (λ o. o.0) os) → AllByRecursion (λ o. FineObject transform arcs o.1) os
      → Gives (objects_after transform arcs met (map (λ o. (o.0, object_value (cell_value transform) o.1)) os)) os
  unfolding objects_after
  after_back met [] n d h c = refl
  after_back met (o ∷ os) n d h c =
      let names : List (List ℕ) = map (λ o. o.0) os in
      let fresh = all_weaker (λ m. AllByRecursion (λ y. m ≢ y) (o.0 ∷ names)) (λ m. m ≢ o.0) (λ m k. k.0) met n in
      let rest = all_weaker (λ m. AllByRecursion (λ y. m ≢ y) (o.0 ∷ names)) (λ m. AllByRecursion (λ y. m ≢ y) names) (λ m k. k.1) met n in
      rw (unmet o.0 met fresh, object_back o.1 h.0 c, after_back (o.0 ∷ met) os (d.0, rest) d.1 h.1 c) refl

  pub objects_back : (os : List (List ℕ × TopoObject)) → AreDistinct (map (λ o. o.0) os) → AllByRecursion (λ o. FineObject transform arcs o.1) os
      → Gives (objects transform arcs (objects_value (cell_value transform) os)) os
  unfolding objects
  objects_back os d h = pure_gives _ (objects_after transform arcs []) _ os (object_members (map (λ o. (o.0, object_value (cell_value transform) o.1)) os)) (after_back [] os tt d h)
