use Rattle.std.proofs.Common.{◌<◌, ◌^◌, ap, arith, false, refl, rules, sym, true, ◌∙◌}
use Rattle.std.proofs.lemmas.List.{take_all}
use Rattle.std.specs.Prelude.{sum_by}
use Rattle.byte_ends.specs.Ends.{saturated}
use Rattle.geometry.specs.declared.shape.Geometry.TheVariants as g
use Rattle.geojson_types.specs.Nesting.{nesting}
use Rattle.topojson_types.proofs.Parts.{member_nests}
use Rattle.reports.specs.Positions.{line_length, shape_length}
use Rattle.reports.proofs.Decoded.{area_length, group_length, lines_length, of_kind, one_length, point_length, points_length, polygons_length}
use Rattle.reports.proofs.positions.+shape_positions.Goals as goal

pub shape_positions-requires : goal.shape_positions-requires
shape_positions-requires t c =
    let is = c.in-Group.is ∙ ap (λ ss. g.Group ss) (sym c.as_slice-shape-items.ensures) in
    let lower : nesting c.shape-item.result < nesting c.args.shape.now =
    member_nests c.args.shape.now c.as_slice-shape-items.result.now c.shapes.shape-index c.shape-item.result is c.shapes-test.true c.shape-item.is in
    omega arith

pub returns-in-Point : goal.returns-in-Point
returns-in-Point t c = of_kind c.args.topology.now c.args.shape.now _ 1 1 c.in-Point.is (point_length c.args.topology.now c.in-Point.field-0) refl

pub returns-in-MultiPoint : goal.returns-in-MultiPoint
returns-in-MultiPoint t c =
    let few : c.len.result < 2 ^ 64 = search rules in
    of_kind c.args.topology.now c.args.shape.now _ _ _ c.in-MultiPoint.is (points_length c.args.topology.now c.in-MultiPoint.cells) (omega (arith, few, c.len.ensures))

pub returns-in-Line : goal.returns-in-Line
returns-in-Line t c =
    of_kind c.args.topology.now c.args.shape.now _ _ _ c.in-Line.is (one_length c.args.topology.now c.in-Line.refs)
    (c.line_positions.ensures ∙ ap (λ l. saturated (line_length c.args.topology.now false l)) c.as_slice.ensures)

pub returns-in-Lines : goal.returns-in-Lines
returns-in-Lines t c =
    of_kind c.args.topology.now c.args.shape.now _ _ _ c.in-Lines.is (lines_length c.args.topology.now c.in-Lines.lines)
    (c.lines_positions.ensures ∙ ap (λ ls. saturated (sum_by (line_length c.args.topology.now false) ls)) c.as_slice-in-Lines.ensures)

pub returns-in-Area : goal.returns-in-Area
returns-in-Area t c =
    of_kind c.args.topology.now c.args.shape.now _ _ _ c.in-Area.is (area_length c.args.topology.now c.in-Area.rings)
    (c.lines_positions-in-Area.ensures ∙ ap (λ ls. saturated (sum_by (line_length c.args.topology.now true) ls)) c.as_slice-in-Area.ensures)

pub returns-in-Areas : goal.returns-in-Areas
returns-in-Areas t c =
    of_kind c.args.topology.now c.args.shape.now _ _ _ c.in-Areas.is (polygons_length c.args.topology.now c.in-Areas.areas)
    (c.areas_positions.ensures ∙ ap (λ rss. saturated (sum_by (λ rs. sum_by (line_length c.args.topology.now true) rs) rss)) c.as_slice-in-Areas.ensures)

pub returns-after-shapes : goal.returns-after-shapes
returns-after-shapes t c =
    let all = take_all c.shapes.shape-index c.as_slice-shape-items.result.now c.shapes-test.false ∙ c.as_slice-shape-items.ensures in
    of_kind c.args.topology.now c.args.shape.now _ _ _ c.in-Group.is (group_length c.args.topology.now c.in-Group.shapes)
    (c.shapes.invariant ∙ ap (λ ss. saturated (sum_by (shape_length c.args.topology.now) ss)) all)
