-- The names of the GeoJSON types (RFC 7946, section 1.4).
use Rattle.std.specs.Prelude.{ℕ, List, Option, Some, None, codes, bytes_eq, if◌then◌else◌}
use Rattle.geometry.specs.Lists.{map_some}
use Rattle.geojson_meaning.specs.declared.types.CoordinatesType.{CoordinatesType}
use Rattle.geojson_meaning.specs.declared.types.CoordinatesType.TheVariants as coordinates
use Rattle.geojson_meaning.specs.declared.types.GeometryType.{GeometryType}
use Rattle.geojson_meaning.specs.declared.types.GeometryType.TheVariants as geometry
use Rattle.geojson_meaning.specs.declared.types.GeoJsonType.{GeoJsonType}
use Rattle.geojson_meaning.specs.declared.types.GeoJsonType.TheVariants as type

-- the geometry types that have `coordinates`
unfoldable pub coordinates_type : List ℕ → Option CoordinatesType
coordinates_type name =
    if bytes_eq name (codes "Point") then Some coordinates.Point
    else (if bytes_eq name (codes "MultiPoint") then Some coordinates.MultiPoint
    else (if bytes_eq name (codes "LineString") then Some coordinates.LineString
    else (if bytes_eq name (codes "MultiLineString") then Some coordinates.MultiLineString
    else (if bytes_eq name (codes "Polygon") then Some coordinates.Polygon
    else (if bytes_eq name (codes "MultiPolygon") then Some coordinates.MultiPolygon
    else None)))))

-- all geometry types: those that have `coordinates`, and the one that has `geometries`
unfoldable pub geometry_type : List ℕ → Option GeometryType
geometry_type name = if bytes_eq name (codes "GeometryCollection") then Some geometry.Collection else map_some geometry.Coordinates (coordinates_type name)

-- the seven geometry types, Feature and FeatureCollection
unfoldable pub geojson_type : List ℕ → Option GeoJsonType
geojson_type name =
    if bytes_eq name (codes "FeatureCollection") then Some type.FeatureCollection
    else (if bytes_eq name (codes "Feature") then Some type.Feature
    else map_some type.Geometry (geometry_type name))
