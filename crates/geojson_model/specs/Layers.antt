-- Members of the object of a layer, as they were seen among the others.
use Rattle.std.specs.Prelude.{◌≡◌, ℕ, Bool, List, [], ◌∷◌, ◌++◌, length, Option, Some, None, Result, Ok, Err, codes}
use Rattle.json_value.specs.declared.json.Json.{Json}
use Rattle.json_value.specs.Kinds.{array_of}
use Rattle.geojson_types.specs.declared.counts.Counts.{Counts}
use Rattle.geojson_types.specs.Features.{Featured}
use Rattle.geojson_meaning.specs.Features.{feature_element}
use Rattle.geojson_meaning.specs.Layers.{features_from, typed_features}
use Rattle.geojson_meaning.specs.Members.{named, type_name}
use Rattle.geojson_meaning.specs.Reader.{LayerReader, ◌>>=◌, fault_in, give, or_fail, pure, within}
use Rattle.geojson_meaning.specs.Types.{geojson_type}
use Rattle.geojson_meaning.specs.declared.fault.GeoFault.{GeoFault}
use Rattle.geojson_meaning.specs.declared.fault.GeoFaultKind.{GeoFaultKind}
use Rattle.geojson_meaning.specs.declared.fault.GeoFaultKind.TheVariants.{Missing, Duplicate, UnknownType, WrongKind}
use Rattle.geojson_meaning.specs.declared.types.GeoJsonType.{GeoJsonType}
use Rattle.geojson_meaning.specs.declared.types.GeoJsonType.TheVariants as type
use Rattle.geojson_meaning.specs.declared.types.GeometryType.{GeometryType}
use Rattle.json_cursor.specs.Members.{Members}
use Rattle.json_cursor.specs.declared.stop.Stop.{Stop}
use Rattle.json_cursor.specs.declared.stop.Stop.TheVariants as stop
use Rattle.geojson_model.specs.Features.{IsFields}
use Rattle.geojson_model.specs.Members.{IsParts, IsOccurrence}
use Rattle.geojson_model.specs.declared.geometries.Start.{Start}
use Rattle.geojson_model.specs.declared.layers.Collected.{Collected}
use Rattle.geojson_model.specs.declared.layers.LayerParts.{LayerParts}
use Rattle.json_cursor.specs.declared.occurrence.Occurrence.{Occurrence}
use Rattle.json_cursor.specs.declared.occurrence.Occurrence.TheVariants.{Never, Once, Again}

-- why reading stops, in the feature of this number, or in none
abbrev pub stop_in : Option ℕ → Stop GeoFaultKind → Stop GeoFault
stop_in n (stop.Fault kind) = stop.Fault (fault_in n kind)
stop_in n stop.NoValue = stop.NoValue
stop_in n stop.Memory = stop.Memory

-- one more feature after these, of which it has the number
abbrev pub numbered : Bool → List Featured → Json → LayerReader (List Featured)
numbered exact fs v = do
  f ← within (Some (length fs)) (feature_element exact v)
  give (fs ++ f ∷ [])

-- the features that the value of `features` gives
abbrev pub array_features : Bool → Json → LayerReader (List Featured)
array_features exact v = do
  vs ← within None (pure (or_fail WrongKind (array_of v)))
  features_from exact 0 vs

-- the features were read so, from these counts on
abbrev pub Collects : Start → Json → Result (List Featured) GeoFault → Counts → Type 0
Collects start v (Ok fs) counts = array_features start.exact v start.counts ≡ Ok (fs, counts)
Collects start v (Err e) counts = array_features start.exact v start.counts ≡ Err e

abbrev pub IsCollected : {D : Type 0} → Start → Json → Collected D → Type 0
IsCollected start v x = Collects start v x.features x.counts

-- what was seen of these members
pub record IsLayerParts {D : Type 0} (start : Start) (d : ℕ) (ms : Members) (parts : LayerParts D) : Type 0 where
  pub bare : IsParts start d ms parts.bare
  pub fields : IsFields start ms parts.fields
  pub features : IsOccurrence (IsCollected start) (named (codes "features") ms) parts.features

-- a type that must be there once
abbrev pub type_of : Occurrence (Result GeoJsonType GeoFaultKind) → Result GeoJsonType GeoFaultKind
type_of Never = Err Missing
type_of (Once x) = x
type_of Again = Err Duplicate

-- the geometry type of an object with these members is this
abbrev pub Types : GeometryType → Members → Type 0
Types kind ms = (name : List ℕ) × (type_name ms ≡ Ok name) × (geojson_type name ≡ Some (type.Geometry kind))

-- the features of an object with these members
abbrev pub members_features : Bool → Members → LayerReader (List Featured)
members_features exact ms = do
  name ← within None (pure (type_name ms))
  type ← within None (pure (or_fail UnknownType (geojson_type name)))
  typed_features exact type ms
