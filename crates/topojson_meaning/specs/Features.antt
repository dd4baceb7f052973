-- The feature that a geometry object is, with its identifier and properties (TopoJSON 1.0, section 2.2), or the first fault.
use Rattle.std.specs.Prelude.{Option, Some, None, Result, Ok, Err, codes, List}
use Rattle.json_value.specs.declared.json.Json.{Json}
use Rattle.json_value.specs.declared.json.Json.TheViews.{out-Json}
use Rattle.json_value.specs.declared.json.Json.TheOpen.{Json-F}
use Rattle.geojson_types.specs.declared.id.Id.{Id}
use Rattle.geojson_types.specs.declared.id.Id.TheVariants as id
use Rattle.geometry.specs.Points.{Point}
use Rattle.topojson_types.specs.declared.feature.TopoFeature.{TopoFeature}
use Rattle.topojson_types.specs.declared.transform.Transform.{Transform}
use Rattle.topojson_meaning.specs.declared.fault.TopoFault.{TopoFault}
use Rattle.topojson_meaning.specs.declared.fault.TopoFault.TheVariants.{WrongKind}
use Rattle.topojson_meaning.specs.declared.geometry_type.GeometryType.{GeometryType}
use Rattle.topojson_meaning.specs.GeometryTypes.{object_type}
use Rattle.topojson_meaning.specs.Members.{Members, find, members}
use Rattle.topojson_meaning.specs.Reader.{Reader, ◌>>=◌, give, pure}
use Rattle.topojson_meaning.specs.Shapes.{typed_shape}

-- an identifier is a text or a number; null is none
abbrev pub identifier_in : Json-F Json → Result (Option Id) TopoFault
identifier_in Json-F.Null = Ok None
identifier_in (Json-F.Text t) = Ok (Some (id.Text t))
identifier_in (Json-F.Number t) = Ok (Some (id.Number t))
identifier_in _ = Err WrongKind

-- the identifier that the member `id` gives, if it is there
abbrev pub identifier : Option Json → Result (Option Id) TopoFault
identifier None = Ok None
identifier (Some v) = identifier_in (out-Json v)

-- the members of an object; null has none
abbrev pub members_in : Json-F Json → Result (Option Members) TopoFault
members_in Json-F.Null = Ok None
members_in (Json-F.Object ms) = Ok (Some ms)
members_in _ = Err WrongKind

-- the members of the object that a member is, if it is there
abbrev pub members_if : Option Json → Result (Option Members) TopoFault
members_if None = Ok None
members_if (Some v) = members_in (out-Json v)

-- the feature of this type with these members
unfoldable pub feature : Option Transform → List (List Point) → Option GeometryType → Members → Reader TopoFeature
feature transform arcs type ms = do
  i ← pure (find (codes "id") ms)
  id ← pure (identifier i)
  p ← pure (find (codes "properties") ms)
  properties ← pure (members_if p)
  shape ← typed_shape transform arcs type ms
  give (record { id = id; properties = properties; shape = shape })

-- a member of a collection that is an object of the topology, whose `type` is looked at first
unfoldable pub feature_element : Option Transform → List (List Point) → Json → Reader TopoFeature
feature_element transform arcs v = do
  ms ← pure (members v)
  type ← pure (object_type ms)
  feature transform arcs type ms
