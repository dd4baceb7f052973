use Rattle.std.proofs.Common.{◌≡◌, ◌<◌, ◌++◌, refl, sym, ap, ◌∙◌, arith}
use Rattle.std.specs.Prelude.{codes}
use Rattle.json_value.specs.Text.{json_text}
use Rattle.json_writer.proofs.Appending.{as_part, then, begins, list-goes, list-ends}
use Rattle.json_writer.proofs.Lists.{array-text, text_by}
use Rattle.topojson_writer.specs.FeatureTexts.{contents_value, head_text}
use Rattle.topojson_writer.specs.FeatureValues.{geometry_value}
use Rattle.topojson_writer.proofs.ShapeParts.{shape-text}
use Rattle.topojson_writer.specs.Decoded.{shape_in}
use Rattle.owned_values.proofs.Elements.{all_at}
use Rattle.geometry.specs.declared.shape.Geometry.TheVariants as kind
use Rattle.geojson_types.specs.Nesting.{nesting}
use Rattle.topojson_types.proofs.Parts.{member_nests}
use Rattle.topojson_types.specs.LinesAndRings.{IsShape}
use Rattle.topojson_types.proofs.Standing.{point_stands, points_stand, line_stands, lines_stand, area_stands, areas_stand, group_stands}
use Rattle.topojson_writer.proofs.Shown.{shows, point_contents, points_contents, line_contents, lines_contents, area_contents, areas_contents, group_contents}
use Rattle.topojson_writer.proofs.topology_shapes.+shapes.Goals as goal

-- ---- a geometry

pub put_shape-returns-clause-text : goal.put_shape-returns-clause-text
put_shape-returns-clause-text g t c =
    let shown = shows c.args.topology.now c.args.shape.now c.requires in
    let contents = json_text (contents_value shown.shape) in
    let end = then (g.O.Out.text c.put.new.self) contents (codes "}") (c.put_contents.ensures.text shown.shape shown.decodes.0) c.put-2.ensures.text in
    as_part _ (ap (λ o. json_text (geometry_value o)) shown.decodes.0 ∙ shape-text shown.shape ∙ ap (λ head. head ++ (contents ++ codes "}")) (sym shown.head))
    (then (g.O.Out.text c.args.out.now) (head_text c.args.shape.now) (contents ++ codes "}") (rw c.head.ensures at c.put.ensures.text) end)

-- ---- the geometries of a collection

pub put_shapes-shapes-init : goal.put_shapes-shapes-init
put_shapes-shapes-init g t c = begins _ (array-text (λ s. geometry_value (shape_in c.args.topology.now s)) c.args.shapes.now) c.put.ensures.text c.put.ensures.kept

pub put_shapes-shapes-preserved : goal.put_shapes-shapes-preserved
put_shapes-shapes-preserved g t c =
    list-goes (text_by (λ s. geometry_value (shape_in c.args.topology.now s))) (codes "]") _ _ _ c.shapes.invariant _ c.shapes-test.true c.shape-item.is
    c.put_comma.ensures.text c.put_comma.ensures.kept c.put_shape.ensures.text c.put_shape.ensures.kept

pub put_shapes-returns-clause-text : goal.put_shapes-returns-clause-text
put_shapes-returns-clause-text g t c =
    list-ends (text_by (λ s. geometry_value (shape_in c.args.topology.now s))) (codes "]") _ _ _ c.shapes.invariant c.shapes-test.false c.put-2.ensures.text

-- ---- the coordinates or the geometries

pub put_shape-put_contents-requires : goal.put_shape-put_contents-requires
put_shape-put_contents-requires g t c = λ κs h. (omega arith, (h, c.requires))

pub put_contents-position_at-position-requires : goal.put_contents-position_at-position-requires
put_contents-position_at-position-requires g t c = rw c.transform.ensures.transform (point_stands c.args.topology.now c.args.shape.now c.in-Point.cell c.in-Point.is c.requires)

pub put_contents-returns-in-Point-clause-text : goal.put_contents-returns-in-Point-clause-text
put_contents-returns-in-Point-clause-text g t c = λ decoded shown.
    as_part _ (ap json_text (point_contents c.args.topology.now c.args.shape.now c.requires decoded shown c.in-Point.cell c.in-Point.is))
    (rw (c.position_at-position.ensures, c.transform.ensures.transform) at c.put_position.ensures.text)

pub put_contents-put_cells-requires : goal.put_contents-put_cells-requires
put_contents-put_cells-requires g t c =
    rw (c.transform-in-MultiPoint.ensures.transform, c.as_slice.ensures) (points_stand c.args.topology.now c.args.shape.now c.in-MultiPoint.cells c.in-MultiPoint.is c.requires)

pub put_contents-returns-in-MultiPoint-clause-text : goal.put_contents-returns-in-MultiPoint-clause-text
put_contents-returns-in-MultiPoint-clause-text g t c = λ decoded shown.
    as_part _ (ap json_text (points_contents c.args.topology.now c.args.shape.now c.requires decoded shown c.in-MultiPoint.cells c.in-MultiPoint.is))
    (rw (c.transform-in-MultiPoint.ensures.transform, c.as_slice.ensures) at c.put_cells.ensures.text)

pub put_contents-put_line-requires : goal.put_contents-put_line-requires
put_contents-put_line-requires g t c = rw c.as_slice-in-Line.ensures ((line_stands c.args.topology.now c.args.shape.now c.in-Line.line c.in-Line.is c.requires).ranged)

pub put_contents-returns-in-Line-clause-text : goal.put_contents-returns-in-Line-clause-text
put_contents-returns-in-Line-clause-text g t c = λ decoded shown.
    as_part _ (ap json_text (line_contents c.args.topology.now c.args.shape.now c.requires decoded shown c.in-Line.line c.in-Line.is)) (rw c.as_slice-in-Line.ensures at c.put_line.ensures.text)

pub put_contents-put_lines-requires : goal.put_contents-put_lines-requires
put_contents-put_lines-requires g t c = rw c.as_slice-in-Lines.ensures (lines_stand c.args.topology.now c.args.shape.now c.in-Lines.lines c.in-Lines.is c.requires)

pub put_contents-returns-in-Lines-clause-text : goal.put_contents-returns-in-Lines-clause-text
put_contents-returns-in-Lines-clause-text g t c = λ decoded shown.
    as_part _ (ap json_text (lines_contents c.args.topology.now c.args.shape.now c.requires decoded shown c.in-Lines.lines c.in-Lines.is)) (rw c.as_slice-in-Lines.ensures at c.put_lines.ensures.text)

pub put_contents-put_lines-requires-in-Area : goal.put_contents-put_lines-requires-in-Area
put_contents-put_lines-requires-in-Area g t c = rw c.as_slice-in-Area.ensures (area_stands c.args.topology.now c.args.shape.now c.in-Area.rings c.in-Area.is c.requires)

pub put_contents-returns-in-Area-clause-text : goal.put_contents-returns-in-Area-clause-text
put_contents-returns-in-Area-clause-text g t c = λ decoded shown.
    as_part _ (ap json_text (area_contents c.args.topology.now c.args.shape.now c.requires decoded shown c.in-Area.rings c.in-Area.is)) (rw c.as_slice-in-Area.ensures at c.put_lines-in-Area.ensures.text)

pub put_contents-put_areas-requires : goal.put_contents-put_areas-requires
put_contents-put_areas-requires g t c = rw c.as_slice-in-Areas.ensures (areas_stand c.args.topology.now c.args.shape.now c.in-Areas.areas c.in-Areas.is c.requires)

pub put_contents-returns-in-Areas-clause-text : goal.put_contents-returns-in-Areas-clause-text
put_contents-returns-in-Areas-clause-text g t c = λ decoded shown.
    as_part _ (ap json_text (areas_contents c.args.topology.now c.args.shape.now c.requires decoded shown c.in-Areas.areas c.in-Areas.is)) (rw c.as_slice-in-Areas.ensures at c.put_areas.ensures.text)

pub put_contents-put_shapes-requires : goal.put_contents-put_shapes-requires
put_contents-put_shapes-requires g t c = λ κs h.
    let same : nesting (kind.Group c.as_slice-in-Group.result.now) ≡ nesting c.args.shape.now = ap (λ ss. nesting (kind.Group ss)) c.as_slice-in-Group.ensures ∙ ap nesting (sym c.in-Group.is) in
    (omega (arith, same), (h, rw c.as_slice-in-Group.ensures (group_stands c.args.topology.now c.args.shape.now c.in-Group.shapes c.in-Group.is c.requires)))

pub put_shapes-put_shape-requires : goal.put_shapes-put_shape-requires
put_shapes-put_shape-requires g t c = λ κs h.
    let lower : nesting c.shape-item.result < nesting (kind.Group c.args.shapes.now) =
    member_nests (kind.Group c.args.shapes.now) c.args.shapes.now c.shapes.shape-index c.shape-item.result refl c.shapes-test.true c.shape-item.is in
    (omega (arith, lower), (h, all_at (IsShape c.args.topology.now) c.args.shapes.now c.shapes.shape-index c.shape-item.result c.shapes-test.true c.shape-item.is c.requires))

pub put_contents-returns-in-Group-clause-text : goal.put_contents-returns-in-Group-clause-text
put_contents-returns-in-Group-clause-text g t c = λ decoded shown.
    as_part _ (ap json_text (group_contents c.args.topology.now c.args.shape.now c.requires decoded shown c.in-Group.shapes c.in-Group.is)) (rw c.as_slice-in-Group.ensures at c.put_shapes.ensures.text)
