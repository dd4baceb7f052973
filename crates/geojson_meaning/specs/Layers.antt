-- The layer that a JSON value stands for, with its counts, or the first fault on the way from its front to its end.
use Rattle.std.specs.Prelude.{ℕ, ◌+◌, Bool, List, [], ◌∷◌, Option, Some, None, Result, codes}
use Rattle.json_value.specs.declared.json.Json.{Json}
use Rattle.geojson_types.specs.declared.counts.Counts.{Counts}
use Rattle.geojson_meaning.specs.declared.fault.GeoFault.{GeoFault}
use Rattle.geojson_meaning.specs.declared.fault.GeoFaultKind.TheVariants.{NotObject, UnknownType, WrongKind}
use Rattle.geojson_meaning.specs.declared.types.GeoJsonType.{GeoJsonType}
use Rattle.geojson_meaning.specs.declared.types.GeoJsonType.TheVariants.{FeatureCollection, Feature, Geometry}
use Rattle.geojson_meaning.specs.declared.types.GeometryType.{GeometryType}
use Rattle.geojson_types.specs.Counting.{no_counts}
use Rattle.geojson_types.specs.Features.{Shape, Featured}
use Rattle.geojson_meaning.specs.Features.{feature, feature_element}
use Rattle.geojson_meaning.specs.Geometries.{typed_geometry}
use Rattle.geojson_meaning.specs.Types.{geojson_type}
use Rattle.json_value.specs.Kinds.{object_of, array_of}
use Rattle.geojson_meaning.specs.Members.{need, type_name}
use Rattle.geojson_meaning.specs.Reader.{LayerReader, ◌>>=◌, give, pure, or_fail, within}

-- the features in order, of which the first has this number
unfoldable pub features_from : Bool → ℕ → List Json → LayerReader (List Featured)
features_from exact n [] = give []
features_from exact n (v ∷ vs) = do
  f ← within (Some n) (feature_element exact v)
  fs ← features_from exact (n + 1) vs
  give (f ∷ fs)

-- the features of a FeatureCollection with these members (RFC 7946, section 3.3)
unfoldable pub collection_features : Bool → List (List ℕ × Json) → LayerReader (List Featured)
collection_features exact ms = do
  v ← within None (pure (need (codes "features") ms))
  vs ← within None (pure (or_fail WrongKind (array_of v)))
  features_from exact 0 vs

-- a Feature is the one feature of its layer
unfoldable pub single_feature : Bool → List (List ℕ × Json) → LayerReader (List Featured)
single_feature exact ms = do
  f ← within (Some 0) (feature exact ms)
  give (f ∷ [])

-- the feature that a bare geometry stands for
abbrev pub bare : Option Shape → Featured
bare shape = record { id = None; properties = None; shape = shape }

-- a bare geometry is the one feature of its layer too
unfoldable pub bare_feature : Bool → GeometryType → List (List ℕ × Json) → LayerReader (List Featured)
bare_feature exact type ms = do
  shape ← within (Some 0) (typed_geometry exact type ms)
  give (bare shape ∷ [])

-- the features of an object of this type with these members
unfoldable pub typed_features : Bool → GeoJsonType → List (List ℕ × Json) → LayerReader (List Featured)
typed_features exact FeatureCollection ms = collection_features exact ms
typed_features exact Feature ms = single_feature exact ms
typed_features exact (Geometry type) ms = bare_feature exact type ms

-- the features of a value
unfoldable pub features : Bool → Json → LayerReader (List Featured)
features exact v = do
  ms ← within None (pure (or_fail NotObject (object_of v)))
  name ← within None (pure (type_name ms))
  type ← within None (pure (or_fail UnknownType (geojson_type name)))
  typed_features exact type ms

-- the features of a value beside what was counted, from nothing on
unfoldable pub layer : Bool → Json → Result (List Featured × Counts) GeoFault
layer exact v = features exact v no_counts
