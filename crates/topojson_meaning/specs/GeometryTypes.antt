-- The names of the geometry types (TopoJSON 1.0, section 2.2), and the type of a geometry object.
use Rattle.std.specs.Prelude.{ℕ, Bool, true, false, List, Option, Some, None, Result, Ok, Err, codes, bytes_eq, if◌then◌else◌}
use Rattle.json_value.specs.declared.json.Json.{Json}
use Rattle.json_value.specs.declared.json.Json.TheViews.{out-Json}
use Rattle.json_value.specs.declared.json.Json.TheOpen.{Json-F}
use Rattle.topojson_meaning.specs.declared.fault.TopoFault.{TopoFault}
use Rattle.topojson_meaning.specs.declared.fault.TopoFault.TheVariants.{WrongKind, UnknownType}
use Rattle.topojson_meaning.specs.declared.geometry_type.ArcsType.TheVariants.{LineString, MultiLineString, Polygon, MultiPolygon}
use Rattle.topojson_meaning.specs.declared.geometry_type.GeometryType.{GeometryType}
use Rattle.topojson_meaning.specs.declared.geometry_type.GeometryType.TheVariants.{Places, Arcs, Collection}
use Rattle.topojson_meaning.specs.declared.geometry_type.PlacesType.TheVariants.{Point, MultiPoint}
use Rattle.topojson_meaning.specs.Members.{Members, need}

-- the type of this name
unfoldable pub geometry_type : List ℕ → Option GeometryType
geometry_type name =
    if bytes_eq name (codes "Point") then Some (Places Point)
    else (if bytes_eq name (codes "MultiPoint") then Some (Places MultiPoint)
    else (if bytes_eq name (codes "LineString") then Some (Arcs LineString)
    else (if bytes_eq name (codes "MultiLineString") then Some (Arcs MultiLineString)
    else (if bytes_eq name (codes "Polygon") then Some (Arcs Polygon)
    else (if bytes_eq name (codes "MultiPolygon") then Some (Arcs MultiPolygon)
    else (if bytes_eq name (codes "GeometryCollection") then Some Collection
    else None))))))

-- the name of the member that a geometry of this type is made of
abbrev pub part_name : GeometryType → List ℕ
part_name (Places type) = codes "coordinates"
part_name (Arcs type) = codes "arcs"
part_name Collection = codes "geometries"

-- it is the type of a collection
abbrev pub is_collection : Option GeometryType → Bool
is_collection None = false
is_collection (Some (Places type)) = false
is_collection (Some (Arcs type)) = false
is_collection (Some Collection) = true

-- it must be one of the seven
abbrev pub known : Option GeometryType → Result (Option GeometryType) TopoFault
known None = Err UnknownType
known (Some type) = Ok (Some type)

-- the type that a value names; null stands for no shape
abbrev pub type_in : Json-F Json → Result (Option GeometryType) TopoFault
type_in Json-F.Null = Ok None
type_in (Json-F.Text name) = known (geometry_type name)
type_in _ = Err WrongKind

unfoldable pub type_of : Json → Result (Option GeometryType) TopoFault
type_of v = type_in (out-Json v)

-- that of a value, unless it is absent
abbrev pub type_if : Result Json TopoFault → Result (Option GeometryType) TopoFault
type_if (Err e) = Err e
type_if (Ok v) = type_of v

-- the type of a geometry object with these members
unfoldable pub object_type : Members → Result (Option GeometryType) TopoFault
object_type ms = type_if (need (codes "type") ms)
