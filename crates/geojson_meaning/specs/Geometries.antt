-- The geometry that a JSON value stands for (RFC 7946, section 3.1), or the first fault. It is null where nothing is left of it.
use Rattle.std.specs.Prelude.{ℕ, Bool, List, map, Option, Some, codes}
use Rattle.json_value.specs.declared.json.Json.{Json}
use Rattle.json_value.specs.declared.json.Json.TheFolds.{para-Json}
use Rattle.json_value.specs.declared.json.Json.TheOpen.{Json-F}
use Rattle.geojson_meaning.specs.declared.fault.GeoFaultKind.TheVariants.{WrongKind, UnknownType}
use Rattle.geojson_meaning.specs.declared.types.CoordinatesType.{CoordinatesType}
use Rattle.geojson_meaning.specs.declared.types.CoordinatesType.TheVariants.{Point, MultiPoint, LineString, MultiLineString, Polygon, MultiPolygon}
use Rattle.geojson_meaning.specs.declared.types.GeometryType.{GeometryType}
use Rattle.geojson_meaning.specs.declared.types.GeometryType.TheVariants.{Coordinates, Collection}
use Rattle.geometry.specs.declared.shape.Geometry.TheVariants as g
use Rattle.geojson_meaning.specs.Coordinates.{elements_position, position}
use Rattle.geojson_types.specs.Features.{Shape}
use Rattle.geojson_meaning.specs.Types.{geometry_type}
use Rattle.geojson_meaning.specs.Lines.{some_elements, line_in, line}
use Rattle.geometry.specs.Lists.{map_some, unless_empty}
use Rattle.geojson_meaning.specs.Members.{need_as, type_name}
use Rattle.geojson_meaning.specs.Polygons.{polygon_in, polygon}
use Rattle.geojson_meaning.specs.Reader.{Reader, ◌>>=◌, give, fail, pure, or_fail, if_some, each, kept}

-- ---- geometries with `coordinates`

-- the shape of this type with these elements of `coordinates`
unfoldable pub shape_in : Bool → CoordinatesType → List Json → Reader (Option Shape)
shape_in exact Point vs = do
  p ← elements_position exact vs
  give (Some (g.Point p))
shape_in exact MultiPoint vs = do
  ps ← each (position exact) vs
  give (unless_empty g.MultiPoint ps)
shape_in exact LineString vs = do
  ps ← line_in exact vs
  give (map_some g.Line ps)
shape_in exact MultiLineString vs = do
  ls ← kept (line exact) vs
  give (unless_empty g.Lines ls)
shape_in exact Polygon vs = do
  rs ← polygon_in exact vs
  give (map_some g.Area rs)
shape_in exact MultiPolygon vs = do
  rss ← kept (polygon exact) vs
  give (unless_empty g.Areas rss)

-- the shape of this type with this value as `coordinates`
unfoldable pub coordinates_shape : Bool → CoordinatesType → Json → Reader (Option Shape)
coordinates_shape exact type v = do
  vs ← some_elements v
  if_some (shape_in exact type) vs

-- ---- geometries of any type

-- the geometry of this type with these members, where the member `geometries` is read so
abbrev pub typed_geometry_with : Reader (List Shape) → Bool → GeometryType → List (List ℕ × Json) → Reader (Option Shape)
typed_geometry_with geometries exact Collection ms = do
  ss ← geometries
  give (Some (g.Group ss))
typed_geometry_with geometries exact (Coordinates type) ms = need_as (codes "coordinates") (coordinates_shape exact type) ms

-- the geometry with these members, whose `type` is looked at first
abbrev pub geometry_with : Reader (List Shape) → Bool → List (List ℕ × Json) → Reader (Option Shape)
geometry_with geometries exact ms = do
  name ← pure (type_name ms)
  type ← pure (or_fail UnknownType (geometry_type name))
  typed_geometry_with geometries exact type ms

-- what a value is read as: a geometry, and the `geometries` of a collection
pub record Readings : Type 0 where
  pub geometry : Reader (Option Shape)
  pub geometries : Reader (List Shape)

-- one level, where each value inside stands beside its own readings
abbrev pub readings_step : Bool → Json-F (Json × Readings) → Readings
readings_step exact (Json-F.Object ms) = record {
  geometry = geometry_with (need_as (codes "geometries") (λ v. v.1.geometries) ms) exact (map (λ m. (m.0, m.1.0)) ms);
  geometries = fail WrongKind;
}
readings_step exact (Json-F.Array vs) = record { geometry = fail WrongKind; geometries = kept (λ v. v.1.geometry) vs }
readings_step exact _ = record { geometry = fail WrongKind; geometries = fail WrongKind }

-- the readings of a value, down to any depth
unfoldable pub readings : Bool → Json → Readings
readings exact = para-Json Readings (readings_step exact)

-- a value as a geometry; it must be an object
unfoldable pub shape : Bool → Json → Reader (Option Shape)
shape exact v = (readings exact v).geometry

-- a value as `geometries`; it must be an array, and those that are null are left out
unfoldable pub shapes : Bool → Json → Reader (List Shape)
shapes exact v = (readings exact v).geometries

-- the geometry of this type with these members
unfoldable pub typed_geometry : Bool → GeometryType → List (List ℕ × Json) → Reader (Option Shape)
typed_geometry exact type ms = typed_geometry_with (need_as (codes "geometries") (shapes exact) ms) exact type ms

-- the geometry with these members
unfoldable pub geometry : Bool → List (List ℕ × Json) → Reader (Option Shape)
geometry exact ms = do
  name ← pure (type_name ms)
  type ← pure (or_fail UnknownType (geometry_type name))
  typed_geometry exact type ms
