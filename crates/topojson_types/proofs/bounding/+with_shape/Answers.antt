use Rattle.std.proofs.Common.{◌<◌, Some, map, refl, sym, ap, ◌∙◌, arith}
use Rattle.geometry.specs.declared.shape.Geometry.TheVariants as g
use Rattle.geometry.specs.Lists.{joined}
use Rattle.geojson_types.specs.Nesting.{nesting}
use Rattle.topojson_types.specs.Validity.{places}
use Rattle.topojson_types.specs.Widening.{widened_by}
use Rattle.topojson_types.proofs.Boxes.{turns, ends, of_kind}
use Rattle.topojson_types.proofs.ByKind.{places_at}
use Rattle.topojson_types.proofs.Parts.{member_nests}
use Rattle.topojson_types.proofs.bounding.+with_shape.Goals as goal

pub with_shape-all-requires : goal.with_shape-all-requires
with_shape-all-requires t c =
    let is = c.in-Group.is ∙ ap (λ ss. g.Group ss) (sym c.as_slice-shape-items.ensures) in
    let lower : nesting c.shape-item.result < nesting c.args.shape.now =
    member_nests c.args.shape.now c.as_slice-shape-items.result.now c.shapes.shape-index c.shape-item.result is c.shapes-test.true c.shape-item.is in
    omega arith

pub shapes-preserved : goal.shapes-preserved
shapes-preserved t c =
    turns places c.as_slice-shape-items.result.now c.shapes.shape-index c.args.bounds c.shapes.all _ c.shape-item.result c.shapes-test.true c.shape-item.is c.shapes.invariant
    c.with_shape-all.ensures

pub returns-in-Point : goal.returns-in-Point
returns-in-Point t c =
    of_kind c.args.bounds c.args.shape.now _ _ _ c.in-Point.is (places_at.point c.in-Point.cell)
    (ap Some c.widen.ensures)

pub returns-in-MultiPoint : goal.returns-in-MultiPoint
returns-in-MultiPoint t c =
    of_kind c.args.bounds c.args.shape.now _ _ _ c.in-MultiPoint.is (places_at.points c.in-MultiPoint.cells)
    (c.with_cells.ensures ∙ ap (widened_by c.args.bounds) c.as_slice.ensures)

pub returns-in-Line : goal.returns-in-Line
returns-in-Line t c = of_kind c.args.bounds c.args.shape.now _ _ _ c.in-Line.is (places_at.line c.in-Line.field-0) refl

pub returns-in-Lines : goal.returns-in-Lines
returns-in-Lines t c = of_kind c.args.bounds c.args.shape.now _ _ _ c.in-Lines.is (places_at.lines c.in-Lines.field-0) refl

pub returns-in-Area : goal.returns-in-Area
returns-in-Area t c = of_kind c.args.bounds c.args.shape.now _ _ _ c.in-Area.is (places_at.area c.in-Area.field-0) refl

pub returns-in-Areas : goal.returns-in-Areas
returns-in-Areas t c = of_kind c.args.bounds c.args.shape.now _ _ _ c.in-Areas.is (places_at.areas c.in-Areas.field-0) refl

pub returns-after-shapes : goal.returns-after-shapes
returns-after-shapes t c =
    of_kind c.args.bounds c.args.shape.now _ _ _ c.in-Group.is (places_at.group c.in-Group.shapes)
    (ends places c.as_slice-shape-items.result.now c.shapes.shape-index c.args.bounds c.shapes.all c.shapes-test.false c.shapes.invariant
    ∙ ap (λ ss. widened_by c.args.bounds (joined (map places ss))) c.as_slice-shape-items.ensures)
