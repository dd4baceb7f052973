-- GeoJSON texts (RFC 7946) as JSON values.
use Rattle.std.specs.Prelude.{ℕ, ℤ, List, [], ◌∷◌, ◌++◌, map, codes, Option, Some, None}
use Rattle.decimal_text.specs.Scaling.{units_text}
use Rattle.json_value.specs.declared.json.Json.{Json}
use Rattle.json_value.specs.declared.json.Json.TheVariants as j
use Rattle.geometry.specs.declared.shape.Geometry.{fold-Geometry}
use Rattle.geometry.specs.declared.shape.Geometry.TheOpen.{Geometry-F}
use Rattle.geojson_types.specs.declared.layer.FeatureSet.{FeatureSet}
use Rattle.geojson_types.specs.declared.layer.FeatureSet.TheVariants.{One, Many}
use Rattle.geojson_types.specs.Features.{Shape, Featured}
use Rattle.geometry.specs.Points.{Point}
use Rattle.geometry.specs.Units.{unit_places}
use Rattle.topojson_types.specs.Values.{id_members}

-- a member of an object: its name and its value
abbrev pub Member : Type 0
Member = List ℕ × Json

-- ---- section 3.1: geometries

-- a coordinate, by the least decimal of its units
abbrev pub coordinate_value : ℤ → Json
coordinate_value units = j.Number (units_text units unit_places)

-- a position, x (longitude) first (section 3.1.1)
abbrev pub position_value : Point → Json
position_value p = j.Array (coordinate_value p.x ∷ (coordinate_value p.y ∷ []))

-- positions in a row: those of a MultiPoint, of a LineString or of a linear ring
abbrev pub positions_value : List Point → Json
positions_value ps = j.Array (map position_value ps)

-- the lines of a MultiLineString, or the rings of a Polygon
abbrev pub lines_value : List (List Point) → Json
lines_value ls = j.Array (map positions_value ls)

-- the polygons of a MultiPolygon
abbrev pub polygons_value : List (List (List Point)) → Json
polygons_value areas = j.Array (map lines_value areas)

-- the member "type" (section 1.4)
abbrev pub type_member : List ℕ → Member
type_member name = (codes "type", j.Text name)

-- a geometry of this type with these coordinates
abbrev pub with_coordinates : List ℕ → Json → Json
with_coordinates name coordinates = j.Object (type_member name ∷ ((codes "coordinates", coordinates) ∷ []))

-- a GeometryCollection (section 3.1.8)
abbrev pub geometry_collection : List Json → Json
geometry_collection geometries = j.Object (type_member (codes "GeometryCollection") ∷ ((codes "geometries", j.Array geometries) ∷ []))

-- one level of a geometry, with the values of those inside a GeometryCollection in their place
abbrev pub shape_step : Geometry-F Point (List Point) (List Point) Json → Json
shape_step (Geometry-F.Point p) = with_coordinates (codes "Point") (position_value p)
shape_step (Geometry-F.MultiPoint ps) = with_coordinates (codes "MultiPoint") (positions_value ps)
shape_step (Geometry-F.Line ps) = with_coordinates (codes "LineString") (positions_value ps)
shape_step (Geometry-F.Lines ls) = with_coordinates (codes "MultiLineString") (lines_value ls)
shape_step (Geometry-F.Area rs) = with_coordinates (codes "Polygon") (lines_value rs)
shape_step (Geometry-F.Areas areas) = with_coordinates (codes "MultiPolygon") (polygons_value areas)
shape_step (Geometry-F.Group geometries) = geometry_collection geometries

-- a geometry
unfoldable pub shape_value : Shape → Json
shape_value = fold-Geometry Point (List Point) (List Point) Json shape_step

-- ---- sections 3.2 and 3.3: features

-- the geometry of a feature, or null
abbrev pub geometry_value : Option Shape → Json
geometry_value None = j.Null
geometry_value (Some shape) = shape_value shape

-- the properties of a feature, with all their members in order, or null
abbrev pub properties_value : Option (List Member) → Json
properties_value None = j.Null
properties_value (Some members) = j.Object members

-- a Feature
unfoldable pub feature_value : Featured → Json
feature_value f =
    j.Object (type_member (codes "Feature") ∷ (id_members f.id
    ++ ((codes "properties", properties_value f.properties) ∷ ((codes "geometry", geometry_value f.shape) ∷ []))))

-- a FeatureCollection
abbrev pub collection_value : List Featured → Json
collection_value fs = j.Object (type_member (codes "FeatureCollection") ∷ ((codes "features", j.Array (map feature_value fs)) ∷ []))

-- a Feature or a FeatureCollection
abbrev pub features_value : FeatureSet → Json
features_value (One f) = feature_value f
features_value (Many fs) = collection_value fs
