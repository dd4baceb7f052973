-- A layer that is read with `exact` is read without it.
use Rattle.std.proofs.Common.{◌≡◌, ℕ, zero, suc, ◌+◌, ◌<◌, true, false, List, [], ◌∷◌, Option, Some, None, Result, Ok, arith}
use Rattle.std.specs.Prelude.{codes}
use Rattle.geojson_meaning.proofs.Names.{depth, array_of, object_of, Json, identifier, members_if, feature, feature_element, coordinates_shape, shape, shapes, typed_geometry, geometry, ExactIsStricter, features_from, collection_features, single_feature, bare_feature, typed_features, features, layer, find, need, need_as, Reader, LayerReader, ◌>>=◌, pure, within, if_some, GeoFaultKind, WrongKind, GeoJsonType, GeometryType}
use Rattle.json_value.specs.declared.json.Json.TheVariants as j
use Rattle.geometry.specs.declared.shape.Geometry.TheVariants as g
use Rattle.geojson_meaning.specs.declared.types.GeoJsonType.TheVariants as geojson
use Rattle.geojson_meaning.specs.declared.types.GeometryType.TheVariants as type
use Rattle.geojson_meaning.proofs.Proper.{shallow}
use Rattle.geojson_meaning.proofs.Inside.{Shallower, array_shallower, object_shallower, need_part}
use Rattle.geojson_meaning.proofs.SoundShapes.{ShallowMembers}
use Rattle.geojson_meaning.proofs.Stricter.{Stricter, then_stricter, give_stricter, fail_stricter, pure_stricter, after_stricter, within_stricter, if_stricter, if_some_stricter, kept_stricter_of}
use Rattle.geojson_meaning.proofs.StricterParts.{coordinates_shape_stricter}
use Rattle.geojson_meaning.proofs.Unrolled.{shape_object, shape_other, shapes_array, shapes_other}

-- ---- one level of a geometry

-- the member of this name, where it matters that it is that one
need_as_stricter : {A : Type 0} (name : List ℕ) (m n : Json → Reader A) (ms : List (List ℕ × Json)) → ((v : Json) → need name ms ≡ Ok v → Stricter (m v) (n v)) → Stricter (need_as name m ms) (need_as name n ms)
need_as_stricter name m n ms h = grind (arith, fail_stricter)

module _ (n : ℕ) (ms : List (List ℕ × Json)) (inside : ShallowMembers n ms) (inner : (v : Json) → depth v < n → Stricter (shapes true v) (shapes false v)) where
  typed_stricter : (t : GeometryType) → Stricter (typed_geometry true t ms) (typed_geometry false t ms)
  unfolding typed_geometry
  typed_stricter type.Collection =
      then_stricter (need_as (codes "geometries") (shapes true) ms) (need_as (codes "geometries") (shapes false) ms) _ _
      (need_as_stricter (codes "geometries") (shapes true) (shapes false) ms (λ v e. inner v (need_part (Shallower n) (codes "geometries") ms v e inside)))
      (λ ss. give_stricter (Some (g.Group ss)))
  typed_stricter (type.Coordinates t) = need_as_stricter (codes "coordinates") (coordinates_shape true t) (coordinates_shape false t) ms (λ v e. coordinates_shape_stricter t v)

  members_stricter : Stricter (geometry true ms) (geometry false ms)
  unfolding geometry
  members_stricter = grind (arith, after_stricter, typed_stricter)

-- ---- all levels

-- as a geometry, and as the value of `geometries`
record IsReadStricter (v : Json) : Type 0 where
  one : Stricter (shape true v) (shape false v)
  many : Stricter (shapes true v) (shapes false v)

module _ (v : Json) (inner : (w : Json) → depth w < depth v → IsReadStricter w) where
  one_stricter : (o : Option (List (List ℕ × Json))) → object_of v ≡ o → Stricter (shape true v) (shape false v)
  one_stricter None e = rw (shape_other true v e) (fail_stricter WrongKind (shape false v))
  one_stricter (Some ms) e = rw (shape_object true v ms e, shape_object false v ms e) (members_stricter (depth v) ms (object_shallower v ms e) (λ w lt. (inner w lt).many))

  many_stricter : (o : Option (List Json)) → array_of v ≡ o → Stricter (shapes true v) (shapes false v)
  many_stricter None e = rw (shapes_other true v e) (fail_stricter WrongKind (shapes false v))
  many_stricter (Some vs) e = rw (shapes_array true v vs e, shapes_array false v vs e)
      (kept_stricter_of (Shallower (depth v)) (shape true) (shape false) (λ w lt. (inner w lt).one) vs (array_shallower v vs e))

below : (n : ℕ) (v : Json) → depth v < n → IsReadStricter v
below zero v lt = absurd (omega arith)
below (suc n) v lt = grind (arith, one_stricter, many_stricter, below n)

shapes_stricter : (v : Json) → Stricter (shapes true v) (shapes false v)
shapes_stricter v = (below (suc (depth v)) v (omega arith)).many

geometry_stricter : (ms : List (List ℕ × Json)) → Stricter (geometry true ms) (geometry false ms)
geometry_stricter ms = members_stricter (depth (j.Object ms)) ms (shallow ms) (λ v lt. shapes_stricter v)

typed_geometry_stricter : (t : GeometryType) (ms : List (List ℕ × Json)) → Stricter (typed_geometry true t ms) (typed_geometry false t ms)
typed_geometry_stricter t ms = typed_stricter (depth (j.Object ms)) ms (shallow ms) (λ v lt. shapes_stricter v) t

-- ---- features

feature_stricter : (ms : List (List ℕ × Json)) → Stricter (feature true ms) (feature false ms)
unfolding feature
feature_stricter ms =
    after_stricter (find (codes "id") ms) _ _
    (λ i. after_stricter (identifier i) _ _
    (λ id. after_stricter (find (codes "properties") ms) _ _
    (λ p. after_stricter (members_if p) _ _
    (λ properties. after_stricter (find (codes "geometry") ms) _ _
    (λ o. after_stricter (members_if o) _ _
    (λ object. then_stricter (if_some (geometry true) object) (if_some (geometry false) object) _ _ (if_some_stricter (geometry true) (geometry false) geometry_stricter object)
    (λ shape. give_stricter (record { id = id; properties = properties; shape = shape }))))))))

feature_element_stricter : (v : Json) → Stricter (feature_element true v) (feature_element false v)
unfolding feature_element
feature_element_stricter v = search (after_stricter, if_stricter, feature_stricter, fail_stricter)

-- ---- layers

features_from_stricter : (n : ℕ) (vs : List Json) → Stricter (features_from true n vs) (features_from false n vs)
unfolding features_from
features_from_stricter n [] = give_stricter []
features_from_stricter n (v ∷ vs) = search (then_stricter, within_stricter, feature_element_stricter, give_stricter, features_from_stricter (n + 1) vs)

-- after one step that counts nothing and belongs to no feature, stricter readers make a stricter reader
first_stricter : {A B : Type 0} (r : Result A GeoFaultKind) (m n : A → LayerReader B) → ((x : A) → Stricter (m x) (n x)) → Stricter (within None (pure r) >>= m) (within None (pure r) >>= n)
first_stricter r m n = then_stricter (within None (pure r)) (within None (pure r)) m n (within_stricter None (pure r) (pure r) (pure_stricter r))

typed_features_stricter : (t : GeoJsonType) (ms : List (List ℕ × Json)) → Stricter (typed_features true t ms) (typed_features false t ms)
unfolding typed_features collection_features single_feature bare_feature
typed_features_stricter geojson.FeatureCollection ms = grind (arith, features_from_stricter)
typed_features_stricter geojson.Feature ms = search (then_stricter, within_stricter, feature_stricter, give_stricter, arith)
typed_features_stricter (geojson.Geometry t) ms = search (then_stricter, within_stricter, typed_geometry_stricter, give_stricter, arith)

pub exact_is_stricter : ExactIsStricter
unfolding layer features
exact_is_stricter = grind (arith, first_stricter, typed_features_stricter)
