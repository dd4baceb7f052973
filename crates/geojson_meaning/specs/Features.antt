-- The feature that a JSON value stands for (RFC 7946, section 3.2), or the first fault.
use Rattle.std.specs.Prelude.{ℕ, Bool, List, Option, Some, None, Result, Ok, Err, codes, bytes_eq, if◌then◌else◌}
use Rattle.json_value.specs.declared.json.Json.{Json}
use Rattle.json_value.specs.declared.json.Json.TheViews.{out-Json}
use Rattle.json_value.specs.declared.json.Json.TheOpen.{Json-F}
use Rattle.geojson_types.specs.declared.id.Id.{Id}
use Rattle.geojson_types.specs.declared.id.Id.TheVariants as id
use Rattle.geojson_meaning.specs.declared.fault.GeoFaultKind.{GeoFaultKind}
use Rattle.geojson_meaning.specs.declared.fault.GeoFaultKind.TheVariants.{NotObject, UnknownType, WrongKind}
use Rattle.geojson_types.specs.Features.{Featured}
use Rattle.geojson_meaning.specs.Geometries.{geometry}
use Rattle.json_value.specs.Kinds.{object_of}
use Rattle.geojson_meaning.specs.Members.{find, type_name}
use Rattle.geojson_meaning.specs.Reader.{Reader, ◌>>=◌, give, fail, pure, or_fail, if_some}

-- an identifier is a text or a number; null is none
abbrev pub identifier_in : Json-F Json → Result (Option Id) GeoFaultKind
identifier_in Json-F.Null = Ok None
identifier_in (Json-F.Text t) = Ok (Some (id.Text t))
identifier_in (Json-F.Number t) = Ok (Some (id.Number t))
identifier_in _ = Err WrongKind

-- the identifier that the member `id` gives, if it is there
abbrev pub identifier : Option Json → Result (Option Id) GeoFaultKind
identifier None = Ok None
identifier (Some v) = identifier_in (out-Json v)

-- the members of an object; null has none
abbrev pub members_in : Json-F Json → Result (Option (List (List ℕ × Json))) GeoFaultKind
members_in Json-F.Null = Ok None
members_in (Json-F.Object ms) = Ok (Some ms)
members_in _ = Err WrongKind

-- the members of the object that a member is, if it is there
abbrev pub members_if : Option Json → Result (Option (List (List ℕ × Json))) GeoFaultKind
members_if None = Ok None
members_if (Some v) = members_in (out-Json v)

-- the feature with these members
unfoldable pub feature : Bool → List (List ℕ × Json) → Reader Featured
feature exact ms = do
  i ← pure (find (codes "id") ms)
  id ← pure (identifier i)
  p ← pure (find (codes "properties") ms)
  properties ← pure (members_if p)
  o ← pure (find (codes "geometry") ms)
  object ← pure (members_if o)
  shape ← if_some (geometry exact) object
  give (record { id = id; properties = properties; shape = shape })

-- the feature that an element of `features` is: an object whose type is Feature
unfoldable pub feature_element : Bool → Json → Reader Featured
feature_element exact v = do
  ms ← pure (or_fail NotObject (object_of v))
  name ← pure (type_name ms)
  if bytes_eq name (codes "Feature") then feature exact ms else fail UnknownType
