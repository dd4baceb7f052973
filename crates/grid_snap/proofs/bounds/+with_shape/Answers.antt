use Rattle.std.proofs.Common.{Some, map, ap, ◌∙◌}
use Rattle.geometry.specs.Lists.{joined}
use Rattle.geojson_types.specs.Places.{shape_points}
use Rattle.geometry.proofs.ByKind.{points_at}
use Rattle.grid_snap.specs.Bounds.{widened_by}
use Rattle.grid_snap.proofs.Widening.{starts, turns, ends, of_kind}
use Rattle.grid_snap.proofs.bounds.+with_shape.Goals as goal

pub shapes-init : goal.shapes-init
shapes-init t c = starts shape_points c.as_slice-shape-items.result.now c.args.bounds

pub shapes-preserved : goal.shapes-preserved
shapes-preserved t c =
    turns shape_points c.as_slice-shape-items.result.now c.shapes.shape-index c.args.bounds c.shapes.all _ c.shape-item.result c.shapes-test.true c.shape-item.is c.shapes.invariant
    c.with_shape-all.ensures

pub returns-in-Point : goal.returns-in-Point
returns-in-Point t c = of_kind c.args.bounds c.args.shape.now _ _ _ c.in-Point.is (points_at.point c.in-Point.position) (ap Some c.widen.ensures)

pub returns-in-MultiPoint : goal.returns-in-MultiPoint
returns-in-MultiPoint t c = of_kind c.args.bounds c.args.shape.now _ _ _ c.in-MultiPoint.is (points_at.points c.in-MultiPoint.positions) (c.with_positions.ensures ∙ ap (widened_by c.args.bounds) c.as_slice.ensures)

pub returns-in-Line : goal.returns-in-Line
returns-in-Line t c = of_kind c.args.bounds c.args.shape.now _ _ _ c.in-Line.is (points_at.line c.in-Line.positions) (c.with_positions-in-Line.ensures ∙ ap (widened_by c.args.bounds) c.as_slice-in-Line.ensures)

pub returns-in-Lines : goal.returns-in-Lines
returns-in-Lines t c = of_kind c.args.bounds c.args.shape.now _ _ _ c.in-Lines.is (points_at.lines c.in-Lines.lines) (c.with_lines.ensures ∙ ap (λ ls. widened_by c.args.bounds (joined ls)) c.as_slice-in-Lines.ensures)

pub returns-in-Area : goal.returns-in-Area
returns-in-Area t c = of_kind c.args.bounds c.args.shape.now _ _ _ c.in-Area.is (points_at.area c.in-Area.rings) (c.with_rings.ensures ∙ ap (λ rs. widened_by c.args.bounds (joined rs)) c.as_slice-in-Area.ensures)

pub returns-in-Areas : goal.returns-in-Areas
returns-in-Areas t c = of_kind c.args.bounds c.args.shape.now _ _ _ c.in-Areas.is (points_at.areas c.in-Areas.areas) (c.with_areas.ensures ∙ ap (λ rss. widened_by c.args.bounds (joined (joined rss))) c.as_slice-in-Areas.ensures)

pub returns-after-shapes : goal.returns-after-shapes
returns-after-shapes t c = of_kind c.args.bounds c.args.shape.now _ _ _ c.in-Group.is (points_at.group c.in-Group.shapes)
    (ends shape_points c.as_slice-shape-items.result.now c.shapes.shape-index c.args.bounds c.shapes.all c.shapes-test.false c.shapes.invariant
    ∙ ap (λ ss. widened_by c.args.bounds (joined (map shape_points ss))) c.as_slice-shape-items.ensures)
