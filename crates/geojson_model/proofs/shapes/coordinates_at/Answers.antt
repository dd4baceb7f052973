use Rattle.geometry.specs.declared.shape.Geometry.TheVariants as g
use Rattle.geojson_meaning.specs.declared.types.CoordinatesType.TheVariants as type
use Rattle.geojson_meaning.specs.Coordinates.{position}
use Rattle.geojson_meaning.specs.Lines.{line}
use Rattle.geojson_meaning.specs.Polygons.{polygon}
use Rattle.json_cursor.specs.Arrays.{prefix_value}
use Rattle.json_cursor.specs.Folds.{one, some_one}
use Rattle.geojson_model.proofs.ShapeParts as part
use Rattle.geojson_model.proofs.shapes.coordinates_at.Goals as goal

pub returns-in-Err : goal.returns-in-Err
returns-in-Err c = rw c.in-MultiPoint.is (part.many_stop c.args.exact type.MultiPoint g.MultiPoint (one (position c.args.exact)) (part.points_are c.args.exact) (prefix_value c.args.depth_left c.args.bytes.now) c.args.counts.now c.in-Err.stop c.in-Err.ensures)

pub returns-in-Ok : goal.returns-in-Ok
returns-in-Ok c = rw (c.in-MultiPoint.is, c.points_of.ensures, c.left.ensures) (part.many_read c.args.exact type.MultiPoint g.MultiPoint (one (position c.args.exact)) (part.points_are c.args.exact) (prefix_value c.args.depth_left c.args.bytes.now) c.args.counts.now c.in-Ok.read _ _ c.in-Ok.ensures)

pub returns-in-Err-line_at : goal.returns-in-Err-line_at
returns-in-Err-line_at c = rw c.in-LineString.is (part.one_stops c.args.exact type.LineString g.Line (line c.args.exact) (part.line_is c.args.exact) (prefix_value c.args.depth_left c.args.bytes.now) c.args.counts.now c.in-Err-line_at.stop c.in-Err-line_at.ensures)

pub returns-in-Ok-line_at : goal.returns-in-Ok-line_at
returns-in-Ok-line_at c = rw (c.in-LineString.is, c.line_of.ensures) (part.one_reads c.args.exact type.LineString g.Line (line c.args.exact) (part.line_is c.args.exact) (prefix_value c.args.depth_left c.args.bytes.now) c.args.counts.now c.in-Ok-line_at.read _ _ c.in-Ok-line_at.ensures)

pub returns-in-Err-some_array_at : goal.returns-in-Err-some_array_at
returns-in-Err-some_array_at c = rw c.in-MultiLineString.is (part.many_stop c.args.exact type.MultiLineString g.Lines (some_one (line c.args.exact)) (part.lines_are c.args.exact) (prefix_value c.args.depth_left c.args.bytes.now) c.args.counts.now c.in-Err-some_array_at.stop c.in-Err-some_array_at.ensures)

pub returns-in-Ok-some_array_at : goal.returns-in-Ok-some_array_at
returns-in-Ok-some_array_at c = rw (c.in-MultiLineString.is, c.lines_of.ensures, c.left-in-Ok-some_array_at.ensures) (part.many_read c.args.exact type.MultiLineString g.Lines (some_one (line c.args.exact)) (part.lines_are c.args.exact) (prefix_value c.args.depth_left c.args.bytes.now) c.args.counts.now c.in-Ok-some_array_at.read _ _ c.in-Ok-some_array_at.ensures)

pub returns-in-Err-polygon_at : goal.returns-in-Err-polygon_at
returns-in-Err-polygon_at c = rw c.in-Polygon.is (part.one_stops c.args.exact type.Polygon g.Area (polygon c.args.exact) (part.area_is c.args.exact) (prefix_value c.args.depth_left c.args.bytes.now) c.args.counts.now c.in-Err-polygon_at.stop c.in-Err-polygon_at.ensures)

pub returns-in-Ok-polygon_at : goal.returns-in-Ok-polygon_at
returns-in-Ok-polygon_at c = rw (c.in-Polygon.is, c.area_of.ensures) (part.one_reads c.args.exact type.Polygon g.Area (polygon c.args.exact) (part.area_is c.args.exact) (prefix_value c.args.depth_left c.args.bytes.now) c.args.counts.now c.in-Ok-polygon_at.read _ _ c.in-Ok-polygon_at.ensures)

pub returns-in-Err-some_array_at-2 : goal.returns-in-Err-some_array_at-2
returns-in-Err-some_array_at-2 c = rw c.in-MultiPolygon.is (part.many_stop c.args.exact type.MultiPolygon g.Areas (some_one (polygon c.args.exact)) (part.areas_are c.args.exact) (prefix_value c.args.depth_left c.args.bytes.now) c.args.counts.now c.in-Err-some_array_at-2.stop c.in-Err-some_array_at-2.ensures)

pub returns-in-Ok-some_array_at-2 : goal.returns-in-Ok-some_array_at-2
returns-in-Ok-some_array_at-2 c = rw (c.in-MultiPolygon.is, c.areas_of.ensures, c.left-in-Ok-some_array_at-2.ensures) (part.many_read c.args.exact type.MultiPolygon g.Areas (some_one (polygon c.args.exact)) (part.areas_are c.args.exact) (prefix_value c.args.depth_left c.args.bytes.now) c.args.counts.now c.in-Ok-some_array_at-2.read _ _ c.in-Ok-some_array_at-2.ensures)
