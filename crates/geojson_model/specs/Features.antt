-- Members of features, as they were seen among the others.
use Rattle.std.specs.Prelude.{◌≡◌, ℕ, Bool, ◌||◌, List, Option, Some, None, Result, Ok, Err, bytes_eq, codes}
use Rattle.json_value.specs.declared.json.Json.{Json}
use Rattle.json_value.specs.declared.json.Json.TheViews.{out-Json}
use Rattle.geojson_types.specs.declared.counts.Counts.{Counts}
use Rattle.geojson_types.specs.declared.id.Id.{Id}
use Rattle.geojson_types.specs.Features.{Shape}
use Rattle.geojson_meaning.specs.Features.{identifier_in, members_in}
use Rattle.geojson_meaning.specs.Geometries.{geometry}
use Rattle.geojson_meaning.specs.Members.{named}
use Rattle.geojson_meaning.specs.Reader.{Reader, ◌>>=◌, if_some, pure}
use Rattle.geojson_meaning.specs.declared.fault.GeoFaultKind.{GeoFaultKind}
use Rattle.geojson_meaning.specs.declared.fault.GeoFaultKind.TheVariants.{Missing, Duplicate, UnknownType}
use Rattle.geojson_meaning.specs.declared.types.GeoJsonType.{GeoJsonType}
use Rattle.geojson_meaning.specs.declared.types.GeoJsonType.TheVariants as type
use Rattle.json_cursor.specs.Members.{Members}
use Rattle.json_cursor.specs.declared.stop.Stop.{Stop}
use Rattle.json_cursor.specs.declared.stop.Stop.TheVariants as stop
use Rattle.geojson_model.specs.Members.{IsOccurrence, IsType}
use Rattle.geojson_model.specs.declared.features.Drawn.{Drawn}
use Rattle.geojson_model.specs.declared.features.FeatureParts.{FeatureParts}
use Rattle.geojson_model.specs.declared.features.Fields.{Fields}
use Rattle.geojson_model.specs.declared.geometries.Start.{Start}
use Rattle.json_cursor.specs.declared.occurrence.Occurrence.{Occurrence}
use Rattle.json_cursor.specs.declared.occurrence.Occurrence.TheVariants.{Never, Once, Again}

-- ---- the members of a feature

abbrev pub IsId : Json → Result (Option Id) GeoFaultKind → Type 0
IsId v id = id ≡ identifier_in (out-Json v)

abbrev pub IsProperties : Json → Result (Option Members) GeoFaultKind → Type 0
IsProperties v properties = properties ≡ members_in (out-Json v)

-- the shape that the value of `geometry` gives
abbrev pub drawn_shape : Bool → Json → Reader (Option Shape)
drawn_shape exact v = do
  object ← pure (members_in (out-Json v))
  if_some (geometry exact) object

-- it was read so, from these counts on
abbrev pub Draws : Start → Json → Result (Option Shape) GeoFaultKind → Counts → Type 0
Draws start v (Ok shape) counts = drawn_shape start.exact v start.counts ≡ Ok (shape, counts)
Draws start v (Err e) counts = drawn_shape start.exact v start.counts ≡ Err e

abbrev pub IsDrawn : Start → Json → Drawn → Type 0
IsDrawn start v drawn = Draws start v drawn.shape drawn.counts

abbrev pub is_field : List ℕ → Bool
is_field name = bytes_eq name (codes "geometry") || (bytes_eq name (codes "properties") || bytes_eq name (codes "id"))

-- what was seen of these members
pub record IsFields (start : Start) (ms : Members) (fields : Fields) : Type 0 where
  pub id : IsOccurrence IsId (named (codes "id") ms) fields.id
  pub properties : IsOccurrence IsProperties (named (codes "properties") ms) fields.properties
  pub geometry : IsOccurrence (IsDrawn start) (named (codes "geometry") ms) fields.geometry

-- what is known of the members of a feature, and its type
pub record IsFeatureParts (start : Start) (d : ℕ) (ms : Members) (parts : FeatureParts) : Type 0 where
  pub kind : IsOccurrence IsType (named (codes "type") ms) parts.kind
  pub fields : IsFields start ms parts.fields

-- ---- what they give

abbrev pub given : {A : Type 0} → Occurrence (Result (Option A) GeoFaultKind) → Result (Option A) GeoFaultKind
given Never = Ok None
given (Once x) = x
given Again = Err Duplicate

-- a shape or its fault, with what was counted then
abbrev pub counted : Result (Option Shape) GeoFaultKind → Counts → Result (Option Shape × Counts) GeoFaultKind
counted (Ok shape) counts = Ok (shape, counts)
counted (Err e) counts = Err e

abbrev pub drawn : Occurrence Drawn → Counts → Result (Option Shape × Counts) GeoFaultKind
drawn Never before = Ok (None, before)
drawn (Once x) before = counted x.shape x.counts
drawn Again before = Err Duplicate

-- the fault of a type that was named once
abbrev pub named_fault : Result GeoJsonType GeoFaultKind → Option GeoFaultKind
named_fault (Err e) = Some e
named_fault (Ok type.FeatureCollection) = Some UnknownType
named_fault (Ok type.Feature) = None
named_fault (Ok (type.Geometry geometry)) = Some UnknownType

abbrev pub type_fault : Occurrence (Result GeoJsonType GeoFaultKind) → Option GeoFaultKind
type_fault Never = Some Missing
type_fault (Once x) = named_fault x
type_fault Again = Some Duplicate

-- an answer that has no other reason to stop
abbrev pub stopped : {A : Type 0} → Result A GeoFaultKind → Result A (Stop GeoFaultKind)
stopped (Ok x) = Ok x
stopped (Err e) = Err (stop.Fault e)
