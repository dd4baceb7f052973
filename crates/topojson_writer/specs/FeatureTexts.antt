-- The parts of a text that is written for a geometry or a feature.
use Rattle.std.specs.Prelude.{ℕ, List, ◌++◌, map, codes, Option}
use Rattle.json_value.specs.declared.json.Json.{Json}
use Rattle.json_value.specs.declared.json.Json.TheVariants as j
use Rattle.json_value.specs.Text.{json_text}
use Rattle.geometry.specs.declared.shape.Geometry.{Geometry}
use Rattle.geometry.specs.declared.shape.Geometry.TheOpen.{Geometry-F}
use Rattle.geometry.specs.declared.shape.Geometry.TheViews.{out-Geometry}
use Rattle.geojson_types.specs.declared.id.Id.{Id}
use Rattle.geojson_types.specs.Features.{Shape}
use Rattle.geometry.specs.Points.{Point}
use Rattle.topojson_types.specs.Values.{id_members}
use Rattle.topojson_writer.specs.FeatureValues.{Member, position_value, positions_value, lines_value, polygons_value, shape_value, properties_value}
use Rattle.topojson_writer.specs.Texts.{members_text}

-- up to the coordinates or the geometries, on one level of a geometry
abbrev pub head_in : {P L R S : Type 0} → Geometry-F P L R S → List ℕ
head_in (Geometry-F.Point p) = codes "{\"type\":\"Point\",\"coordinates\":"
head_in (Geometry-F.MultiPoint ps) = codes "{\"type\":\"MultiPoint\",\"coordinates\":"
head_in (Geometry-F.Line ps) = codes "{\"type\":\"LineString\",\"coordinates\":"
head_in (Geometry-F.Lines ls) = codes "{\"type\":\"MultiLineString\",\"coordinates\":"
head_in (Geometry-F.Area rs) = codes "{\"type\":\"Polygon\",\"coordinates\":"
head_in (Geometry-F.Areas areas) = codes "{\"type\":\"MultiPolygon\",\"coordinates\":"
head_in (Geometry-F.Group shapes) = codes "{\"type\":\"GeometryCollection\",\"geometries\":"

-- what stands in front of the coordinates or the geometries of a geometry, whatever that is made of
unfoldable pub head_text : {P L R : Type 0} → Geometry P L R → List ℕ
head_text {P} {L} {R} shape = head_in (out-Geometry P L R shape)

-- the coordinates or the geometries, on one level of a geometry
abbrev pub contents_in : Geometry-F Point (List Point) (List Point) Shape → Json
contents_in (Geometry-F.Point p) = position_value p
contents_in (Geometry-F.MultiPoint ps) = positions_value ps
contents_in (Geometry-F.Line ps) = positions_value ps
contents_in (Geometry-F.Lines ls) = lines_value ls
contents_in (Geometry-F.Area rs) = lines_value rs
contents_in (Geometry-F.Areas areas) = polygons_value areas
contents_in (Geometry-F.Group shapes) = j.Array (map shape_value shapes)

-- the coordinates or the geometries of a geometry
unfoldable pub contents_value : Shape → Json
contents_value shape = contents_in (out-Geometry Point (List Point) (List Point) shape)

-- a feature up to its geometry
abbrev pub feature_head : Option Id → Option (List Member) → List ℕ
feature_head id members =
    codes "{\"type\":\"Feature\"" ++ (members_text (id_members id) ++ (codes ",\"properties\":" ++ (json_text (properties_value members) ++ codes ",\"geometry\":")))

-- a collection up to its features
abbrev pub collection_head : List ℕ
collection_head = codes "{\"type\":\"FeatureCollection\",\"features\":"
