use Rattle.std.proofs.Common.{◌≡◌, ◌∙◌, refl, rules}
use Rattle.geometry.specs.declared.shape.Geometry.TheVariants as g
use Rattle.geometry.specs.Lists.{map_some}
use Rattle.json_cursor.specs.Arrays.{prefix_value, some_array_by, always}
use Rattle.json_cursor.proofs.Steps.{then_stops}
use Rattle.topojson_meaning.specs.declared.fault.TopoFault.TheVariants.{WrongKind}
use Rattle.topojson_meaning.specs.declared.geometry_type.ArcsType.TheVariants as of_arcs
use Rattle.topojson_meaning.specs.Lines.{line, polygon}
use Rattle.topojson_meaning.specs.Reader.{kept}
use Rattle.topojson_meaning.specs.Shapes.{arcs_shape}
use Rattle.topojson_decoder.proofs.Then.{then_reads}
use Rattle.topojson_decoder.proofs.ShapeParts.{line_shape_is, area_shape_is, one_shape, lines_shape_is, areas_shape_is, shape_of_all, all_in_shape}
use Rattle.topojson_decoder.proofs.shapes.arcs_shape_at.Goals as goal

pub returns-in-Err : goal.returns-in-Err
returns-in-Err c = rw c.in-LineString.is
    (then_stops (line c.args.arcs.now) (one_shape g.Line) (arcs_shape c.args.arcs.now of_arcs.LineString) (prefix_value c.args.depth_left c.args.bytes.now) c.args.counts.now (λ v. line_shape_is c.args.arcs.now v c.args.counts.now) c.in-Err.stop c.in-Err.ensures)

pub returns-in-Ok : goal.returns-in-Ok
returns-in-Ok c =
    let made : c.map.result ≡ map_some g.Line c.in-Ok.line = search rules in
    rw (c.in-LineString.is, made)
    (then_reads (line c.args.arcs.now) (one_shape g.Line) (arcs_shape c.args.arcs.now of_arcs.LineString) (prefix_value c.args.depth_left c.args.bytes.now) c.args.counts.now (λ v. line_shape_is c.args.arcs.now v c.args.counts.now) _ _ _ c.in-Ok.ensures _ _ refl)

pub returns-in-Err-some_array_at : goal.returns-in-Err-some_array_at
returns-in-Err-some_array_at c = rw c.in-MultiLineString.is
    (then_stops (some_array_by WrongKind (always (kept (line c.args.arcs.now)))) (shape_of_all g.Lines) (arcs_shape c.args.arcs.now of_arcs.MultiLineString) (prefix_value c.args.depth_left c.args.bytes.now) c.args.counts.now (λ v. lines_shape_is c.args.arcs.now v c.args.counts.now) c.in-Err-some_array_at.stop c.in-Err-some_array_at.ensures)

pub returns-in-Ok-some_array_at : goal.returns-in-Ok-some_array_at
returns-in-Ok-some_array_at c =
    let made : c.map-in-Ok-some_array_at.result ≡ map_some g.Lines c.unless_empty.result = search rules in
    rw (c.in-MultiLineString.is, made ∙ c.unless_empty.ensures g.Lines)
    (then_reads (some_array_by WrongKind (always (kept (line c.args.arcs.now)))) (shape_of_all g.Lines) (arcs_shape c.args.arcs.now of_arcs.MultiLineString) (prefix_value c.args.depth_left c.args.bytes.now) c.args.counts.now (λ v. lines_shape_is c.args.arcs.now v c.args.counts.now) _ _ _ c.in-Ok-some_array_at.ensures _ _ (all_in_shape g.Lines _ _))

pub returns-in-Err-polygon_at : goal.returns-in-Err-polygon_at
returns-in-Err-polygon_at c = rw c.in-Polygon.is
    (then_stops (polygon c.args.arcs.now) (one_shape g.Area) (arcs_shape c.args.arcs.now of_arcs.Polygon) (prefix_value c.args.depth_left c.args.bytes.now) c.args.counts.now (λ v. area_shape_is c.args.arcs.now v c.args.counts.now) c.in-Err-polygon_at.stop c.in-Err-polygon_at.ensures)

pub returns-in-Ok-polygon_at : goal.returns-in-Ok-polygon_at
returns-in-Ok-polygon_at c =
    let made : c.map-in-Ok-polygon_at.result ≡ map_some g.Area c.in-Ok-polygon_at.rings = search rules in
    rw (c.in-Polygon.is, made)
    (then_reads (polygon c.args.arcs.now) (one_shape g.Area) (arcs_shape c.args.arcs.now of_arcs.Polygon) (prefix_value c.args.depth_left c.args.bytes.now) c.args.counts.now (λ v. area_shape_is c.args.arcs.now v c.args.counts.now) _ _ _ c.in-Ok-polygon_at.ensures _ _ refl)

pub returns-in-Err-some_array_at-2 : goal.returns-in-Err-some_array_at-2
returns-in-Err-some_array_at-2 c = rw c.in-MultiPolygon.is
    (then_stops (some_array_by WrongKind (always (kept (polygon c.args.arcs.now)))) (shape_of_all g.Areas) (arcs_shape c.args.arcs.now of_arcs.MultiPolygon) (prefix_value c.args.depth_left c.args.bytes.now) c.args.counts.now (λ v. areas_shape_is c.args.arcs.now v c.args.counts.now) c.in-Err-some_array_at-2.stop c.in-Err-some_array_at-2.ensures)

pub returns-in-Ok-some_array_at-2 : goal.returns-in-Ok-some_array_at-2
returns-in-Ok-some_array_at-2 c =
    let made : c.map-in-Ok-some_array_at-2.result ≡ map_some g.Areas c.unless_empty-in-Ok-some_array_at-2.result = search rules in
    rw (c.in-MultiPolygon.is, made ∙ c.unless_empty-in-Ok-some_array_at-2.ensures g.Areas)
    (then_reads (some_array_by WrongKind (always (kept (polygon c.args.arcs.now)))) (shape_of_all g.Areas) (arcs_shape c.args.arcs.now of_arcs.MultiPolygon) (prefix_value c.args.depth_left c.args.bytes.now) c.args.counts.now (λ v. areas_shape_is c.args.arcs.now v c.args.counts.now) _ _ _ c.in-Ok-some_array_at-2.ensures _ _ (all_in_shape g.Areas _ _))
