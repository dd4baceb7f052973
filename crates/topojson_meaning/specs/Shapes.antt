-- The shape of a geometry object (TopoJSON 1.0, section 2.2), or the first fault. It is null where nothing is left of it.
use Rattle.std.specs.Prelude.{ℕ, List, map, Option, Some, None}
use Rattle.json_value.specs.declared.json.Json.{Json}
use Rattle.json_value.specs.declared.json.Json.TheFolds.{para-Json}
use Rattle.json_value.specs.declared.json.Json.TheOpen.{Json-F}
use Rattle.geometry.specs.declared.shape.Geometry.TheVariants as g
use Rattle.geometry.specs.Lists.{map_some, unless_empty}
use Rattle.geometry.specs.Points.{Point}
use Rattle.topojson_types.specs.declared.transform.Transform.{Transform}
use Rattle.topojson_types.specs.Topologies.{TopoShape}
use Rattle.topojson_meaning.specs.declared.fault.TopoFault.TheVariants.{WrongKind}
use Rattle.topojson_meaning.specs.declared.geometry_type.ArcsType.{ArcsType}
use Rattle.topojson_meaning.specs.declared.geometry_type.ArcsType.TheVariants as of_arcs
use Rattle.topojson_meaning.specs.declared.geometry_type.GeometryType.{GeometryType}
use Rattle.topojson_meaning.specs.declared.geometry_type.GeometryType.TheVariants.{Places, Arcs, Collection}
use Rattle.topojson_meaning.specs.declared.geometry_type.PlacesType.{PlacesType}
use Rattle.topojson_meaning.specs.declared.geometry_type.PlacesType.TheVariants as of_places
use Rattle.topojson_meaning.specs.Arcs.{elements_place, place}
use Rattle.topojson_meaning.specs.GeometryTypes.{part_name, object_type}
use Rattle.topojson_meaning.specs.Lines.{some_elements, line_in, line, polygon_in, polygon}
use Rattle.topojson_meaning.specs.Members.{Members, need_as}
use Rattle.topojson_meaning.specs.Reader.{Reader, ◌>>=◌, give, fail, pure, if_some, each, kept}

-- ---- shapes of positions and of arcs

-- the shape of this type with these elements of `coordinates`
unfoldable pub places_in : Option Transform → PlacesType → List Json → Reader (Option TopoShape)
places_in transform of_places.Point vs = do
  p ← elements_place transform vs
  give (Some (g.Point p))
places_in transform of_places.MultiPoint vs = do
  ps ← each (place transform) vs
  give (unless_empty g.MultiPoint ps)

-- the shape of this type with these elements of `arcs`
unfoldable pub arcs_in : List (List Point) → ArcsType → List Json → Reader (Option TopoShape)
arcs_in arcs of_arcs.LineString vs = do
  refs ← line_in arcs vs
  give (map_some g.Line refs)
arcs_in arcs of_arcs.MultiLineString vs = do
  ls ← kept (line arcs) vs
  give (unless_empty g.Lines ls)
arcs_in arcs of_arcs.Polygon vs = do
  rs ← polygon_in arcs vs
  give (map_some g.Area rs)
arcs_in arcs of_arcs.MultiPolygon vs = do
  areas ← kept (polygon arcs) vs
  give (unless_empty g.Areas areas)

-- the shape of this type with this value as `coordinates`
unfoldable pub places_shape : Option Transform → PlacesType → Json → Reader (Option TopoShape)
places_shape transform type v = do
  vs ← some_elements v
  if_some (places_in transform type) vs

-- the shape of this type with this value as `arcs`
unfoldable pub arcs_shape : List (List Point) → ArcsType → Json → Reader (Option TopoShape)
arcs_shape arcs type v = do
  vs ← some_elements v
  if_some (arcs_in arcs type) vs

-- ---- shapes of any type

-- the shape of this type with this value as the member that it is made of, where the `geometries` of a collection are read so
abbrev pub part_with : {V : Type 0} → (V → Json) → (V → Reader (List TopoShape)) → Option Transform → List (List Point) → GeometryType → V → Reader (Option TopoShape)
part_with value geometries transform arcs (Places type) v = places_shape transform type (value v)
part_with value geometries transform arcs (Arcs type) v = arcs_shape arcs type (value v)
part_with value geometries transform arcs Collection v = do
  ss ← geometries v
  give (Some (g.Group ss))

-- the shape of this type with these members; a null type reads none of them
abbrev pub typed_with : {V : Type 0} → (V → Json) → (V → Reader (List TopoShape)) → Option Transform → List (List Point) → Option GeometryType → List (List ℕ × V) → Reader (Option TopoShape)
typed_with value geometries transform arcs None ms = give None
typed_with value geometries transform arcs (Some type) ms = need_as (part_name type) (part_with value geometries transform arcs type) ms

-- what a value is read as: a geometry inside a collection, and the `geometries` of a collection
pub record Readings : Type 0 where
  pub geometry : Reader (Option TopoShape)
  pub geometries : Reader (List TopoShape)

-- one level, where each value inside stands beside its own readings
abbrev pub readings_step : Option Transform → List (List Point) → Json-F (Json × Readings) → Readings
readings_step transform arcs (Json-F.Object ms) = record {
  geometry = do
    type ← pure (object_type (map (λ m. (m.0, m.1.0)) ms))
    typed_with (λ v. v.0) (λ v. v.1.geometries) transform arcs type ms;
  geometries = fail WrongKind;
}
readings_step transform arcs (Json-F.Array vs) = record { geometry = fail WrongKind; geometries = kept (λ v. v.1.geometry) vs }
readings_step transform arcs _ = record { geometry = fail WrongKind; geometries = fail WrongKind }

-- the readings of a value over these arcs, down to any depth
unfoldable pub readings : Option Transform → List (List Point) → Json → Readings
readings transform arcs = para-Json Readings (readings_step transform arcs)

-- a value as a geometry inside a collection; it must be an object
unfoldable pub shape : Option Transform → List (List Point) → Json → Reader (Option TopoShape)
shape transform arcs v = (readings transform arcs v).geometry

-- a value as `geometries`; it must be an array, and those that are null are left out
unfoldable pub shapes : Option Transform → List (List Point) → Json → Reader (List TopoShape)
shapes transform arcs v = (readings transform arcs v).geometries

-- the shape of this type with this value as the member that it is made of
unfoldable pub part : Option Transform → List (List Point) → GeometryType → Json → Reader (Option TopoShape)
part transform arcs type v = part_with (λ w. w) (shapes transform arcs) transform arcs type v

-- the shape of this type with these members
unfoldable pub typed_shape : Option Transform → List (List Point) → Option GeometryType → Members → Reader (Option TopoShape)
typed_shape transform arcs None ms = give None
typed_shape transform arcs (Some type) ms = need_as (part_name type) (part transform arcs type) ms

-- the shape of a geometry object with these members, whose `type` is looked at first
unfoldable pub geometry : Option Transform → List (List Point) → Members → Reader (Option TopoShape)
geometry transform arcs ms = do
  type ← pure (object_type ms)
  typed_shape transform arcs type ms
