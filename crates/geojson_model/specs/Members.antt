-- Members of objects that are looked up, as they were seen among the others.
use Rattle.std.specs.Prelude.{◌≡◌, ℕ, ◌-◌, Bool, if◌then◌else◌, ◌||◌, List, [], ◌∷◌, ◌++◌, Option, Some, None, Result, Ok, Err, codes}
use Rattle.std.specs.Borrow.{Bor}
use Rattle.json_value.specs.declared.json.Json.{Json}
use Rattle.json_value.specs.Kinds.{object_of, text_of}
use Rattle.json_value.specs.Reading.{skip}
use Rattle.json_value.specs.declared.json.Json.TheVariants as j
use Rattle.json_reading.specs.declared.fault.Fault.{Fault}
use Rattle.json_reading.specs.Gives.{Fails}
use Rattle.geojson_types.specs.declared.counts.Counts.{Counts}
use Rattle.geojson_types.specs.Features.{Shape}
use Rattle.geojson_meaning.specs.Geometries.{coordinates_shape, shapes}
use Rattle.geojson_meaning.specs.Members.{named}
use Rattle.geojson_meaning.specs.Reader.{or_fail}
use Rattle.geojson_meaning.specs.Types.{geojson_type, geometry_type}
use Rattle.geojson_meaning.specs.declared.fault.GeoFaultKind.{GeoFaultKind}
use Rattle.geojson_meaning.specs.declared.fault.GeoFaultKind.TheVariants.{Duplicate, Missing, UnknownType, WrongKind}
use Rattle.geojson_meaning.specs.declared.types.CoordinatesType.{CoordinatesType}
use Rattle.geojson_meaning.specs.declared.types.GeoJsonType.{GeoJsonType}
use Rattle.geojson_meaning.specs.declared.types.GeoJsonType.TheVariants as type
use Rattle.geojson_meaning.specs.declared.types.GeometryType.{GeometryType}
use Rattle.geojson_meaning.specs.declared.types.GeometryType.TheVariants as kinds
pub use Rattle.json_cursor.specs.Answers.{Judges}
use Rattle.json_cursor.specs.Arrays.{prefix_value}
use Rattle.json_cursor.specs.Held.{IsHeld}
use Rattle.json_cursor.specs.Members.{Made, Members}
pub use Rattle.json_cursor.specs.Occurrences.{BeginsAt, IsOccurrence, is_again, see}
use Rattle.json_cursor.specs.declared.occurrence.Occurrence.{Occurrence}
use Rattle.json_cursor.specs.declared.occurrence.Occurrence.TheVariants.{Never, Once, Again}
use Rattle.geojson_model.specs.declared.coordinate_members.Coordinates.{Coordinates}
use Rattle.geojson_model.specs.declared.geometries.Group.{Group}
use Rattle.geojson_model.specs.declared.geometries.Parts.{Parts}
use Rattle.geojson_model.specs.declared.coordinate_members.Read.{Read}
use Rattle.geojson_model.specs.declared.geometries.Start.{Start}
use Rattle.geojson_model.specs.declared.leading.Seen.{Seen}

-- A value stands there, and then the rest, and what holds of members goes on to hold with a member of this name and that value. Or none
-- stands there, or nothing is said.
abbrev pub Sees : {S : Type 0} → Made S → ℕ → List ℕ → List ℕ → S → S → Result (Bor (List ℕ)) Fault → Type 0
Sees Holds d name value before after (Ok rest) = (v : Json) × (prefix_value d value ≡ Some (v, rest.now)) × ((ms : Members) → Holds ms before → Holds (ms ++ (name, v) ∷ []) after)
Sees Holds d name value before after (Err fault) = Fails fault (prefix_value d value)

-- ---- the members of a geometry

-- the type that the value of the member `type` names
abbrev pub type_in : Option (List ℕ) → Result GeoJsonType GeoFaultKind
type_in None = Err WrongKind
type_in (Some name) = or_fail UnknownType (geojson_type name)

abbrev pub IsType : Json → Result GeoJsonType GeoFaultKind → Type 0
IsType v type = type ≡ type_in (text_of v)

-- the type, if it is one of a geometry
abbrev pub geometry_kind : Result GeoJsonType GeoFaultKind → Result GeometryType GeoFaultKind
geometry_kind (Ok (type.Geometry kind)) = Ok kind
geometry_kind (Ok type.FeatureCollection) = Err UnknownType
geometry_kind (Ok type.Feature) = Err UnknownType
geometry_kind (Err e) = Err e

-- the type of a geometry, which must be there once
abbrev pub kind_of : Occurrence (Result GeoJsonType GeoFaultKind) → Result GeometryType GeoFaultKind
kind_of Never = Err Missing
kind_of (Once x) = geometry_kind x
kind_of Again = Err Duplicate

-- what the value of `coordinates` is read as by this type, from these counts on
abbrev pub ReadsAs : Start → Json → Read → Result (Option Shape) GeoFaultKind → Type 0
ReadsAs start v read (Ok shape) = coordinates_shape start.exact read.kind v start.counts ≡ Ok (shape, read.counts)
ReadsAs start v read (Err e) = coordinates_shape start.exact read.kind v start.counts ≡ Err e

abbrev pub IsRead : Start → Json → Option Read → Type 0
IsRead start v None = Unit {0}
IsRead start v (Some read) = ReadsAs start v read read.shape

-- what the value of `coordinates` was read as by this very type, if it was
abbrev pub IsTaken : Start → CoordinatesType → Json → Option (Result (Option Shape) GeoFaultKind × Counts) → Type 0
IsTaken start kind v None = Unit {0}
IsTaken start kind v (Some (Ok shape, counts)) = coordinates_shape start.exact kind v start.counts ≡ Ok (shape, counts)
IsTaken start kind v (Some (Err e, counts)) = coordinates_shape start.exact kind v start.counts ≡ Err e

-- the value of `coordinates` begins there, and was read so, if it was
pub record IsCoordinates (start : Start) (d : ℕ) (v : Json) (x : Coordinates) : Type 0 where
  pub prefix : BeginsAt d v x.prefix
  pub read : IsRead start v x.read

-- this is what the value of `geometries` is read as
abbrev pub IsGroup : Start → Json → Group → Type 0
IsGroup start v group = IsHeld (shapes start.exact) start.counts group.counts v group.shapes

-- what was seen of these members
pub record IsParts (start : Start) (d : ℕ) (ms : Members) (parts : Parts) : Type 0 where
  pub kind : IsOccurrence IsType (named (codes "type") ms) parts.kind
  pub coordinates : IsOccurrence (IsCoordinates start d) (named (codes "coordinates") ms) parts.coordinates
  pub geometries : IsOccurrence (IsGroup start) (named (codes "geometries") ms) parts.geometries

-- ---- a geometry of coordinates as most programs write it

-- after the front of its coordinates a value and the brace that closes the object (125) make it such a geometry
abbrev pub BeginsGeometry : CoordinatesType → ℕ → List ℕ → List ℕ → Type 0
BeginsGeometry kind d bytes prefix = (v : Json) (after end : List ℕ) → prefix_value (d - 1) prefix ≡ Some (v, after) → skip after ≡ 125 ∷ end
    → (name : List ℕ) × (geometry_type name ≡ Some (kinds.Coordinates kind)) × (prefix_value d bytes ≡ Some (j.Object ((codes "type", j.Text name) ∷ (codes "coordinates", v) ∷ []), end))

-- a geometry of this type whose type stands first in it, and then its coordinates, which begin there
pub record IsLed (kind : CoordinatesType) (d : ℕ) (prefix : List ℕ) (v : Json) : Type 0 where
  pub name : List ℕ
  pub typed : geometry_type name ≡ Some (kinds.Coordinates kind)
  pub part : Json
  pub after : List ℕ
  pub found : prefix_value (d - 1) prefix ≡ Some (part, after)
  pub more : Members
  pub object : v ≡ j.Object ((codes "type", j.Text name) ∷ (codes "coordinates", part) ∷ more)

-- whatever value stands there is one
abbrev pub LeadsGeometry : CoordinatesType → ℕ → List ℕ → List ℕ → Type 0
LeadsGeometry kind d bytes prefix = (v : Json) (end : List ℕ) → prefix_value d bytes ≡ Some (v, end) → IsLed kind d prefix v

-- how often these members stood
pub record IsSeen (ms : Members) (seen : Seen) : Type 0 where
  pub kind : IsOccurrence (λ v x. Unit {0}) (named (codes "type") ms) seen.kind
  pub coordinates : IsOccurrence (λ v x. Unit {0}) (named (codes "coordinates") ms) seen.coordinates

-- the type stands twice, or the coordinates
abbrev pub twice : Seen → Bool
twice seen = is_again seen.kind || is_again seen.coordinates

abbrev pub first_fault : Bool → GeoFaultKind → GeoFaultKind
first_fault twice fault = if twice then Duplicate else fault

-- an object stands at the front in which they do, or don't; or whatever value stands there is no object; or none stands there, or nothing is said
pub record RepeatsIn (d : ℕ) (bytes : List ℕ) (is : Bool) (rest : List ℕ) : Type 0 where
  pub members : Members
  pub prefix : prefix_value d bytes ≡ Some (j.Object members, rest)
  pub seen : Seen
  pub occurrence : IsSeen members seen
  pub answer : is ≡ twice seen

abbrev pub Repeats : ℕ → List ℕ → Result (Option (Bool × Bor (List ℕ))) Fault → Type 0
Repeats d bytes (Ok (Some x)) = RepeatsIn d bytes x.0 x.1.now
Repeats d bytes (Ok None) = (v : Json) (end : List ℕ) → prefix_value d bytes ≡ Some (v, end) → object_of v ≡ None
Repeats d bytes (Err fault) = Fails fault (prefix_value d bytes)
