use Rattle.std.proofs.Common.{◌<◌, ap, arith, sym, ◌∙◌}
use Rattle.geometry.specs.declared.shape.Geometry.TheVariants as g
use Rattle.geojson_types.specs.Nesting.{nesting}
use Rattle.topojson_types.proofs.Parts.{member_nests}
use Rattle.reports.specs.Losses.{is_hollow}
use Rattle.reports.proofs.Hollow.{all_hollow, not_hollow, of_area, of_areas, of_line, of_lines, of_point, of_points}
use Rattle.reports.proofs.losing.+is_hollow.Goals as goal

pub is_hollow-requires : goal.is_hollow-requires
is_hollow-requires t c =
    let is = c.in-Group.is ∙ ap (λ ss. g.Group ss) (sym c.as_slice-shape-items.ensures) in
    let lower : nesting c.shape-item.result < nesting c.args.shape.now =
    member_nests c.args.shape.now c.as_slice-shape-items.result.now c.shapes.shape-index c.shape-item.result is c.shapes-test.true c.shape-item.is in
    omega arith

pub returns-then-not-is_hollow : goal.returns-then-not-is_hollow
returns-then-not-is_hollow t c =
    let is = c.in-Group.is ∙ ap (λ ss. g.Group ss) (sym c.as_slice-shape-items.ensures) in
    not_hollow c.args.shape.now c.as_slice-shape-items.result.now c.shapes.shape-index c.shape-item.result c.is_hollow.result is c.shapes-test.true c.shape-item.is
    c.is_hollow.ensures c.if-not-is_hollow.true

pub returns-in-Point : goal.returns-in-Point
returns-in-Point t c = sym (ap is_hollow c.in-Point.is ∙ of_point c.in-Point.field-0)

pub returns-in-MultiPoint : goal.returns-in-MultiPoint
returns-in-MultiPoint t c = sym (ap is_hollow c.in-MultiPoint.is ∙ of_points c.in-MultiPoint.field-0)

pub returns-in-Line : goal.returns-in-Line
returns-in-Line t c = sym (ap is_hollow c.in-Line.is ∙ of_line c.in-Line.field-0)

pub returns-in-Lines : goal.returns-in-Lines
returns-in-Lines t c = sym (ap is_hollow c.in-Lines.is ∙ of_lines c.in-Lines.field-0)

pub returns-in-Area : goal.returns-in-Area
returns-in-Area t c = sym (ap is_hollow c.in-Area.is ∙ of_area c.in-Area.field-0)

pub returns-in-Areas : goal.returns-in-Areas
returns-in-Areas t c = sym (ap is_hollow c.in-Areas.is ∙ of_areas c.in-Areas.field-0)

pub returns-after-shapes : goal.returns-after-shapes
returns-after-shapes t c =
    let is = c.in-Group.is ∙ ap (λ ss. g.Group ss) (sym c.as_slice-shape-items.ensures) in
    all_hollow c.args.shape.now c.as_slice-shape-items.result.now c.shapes.shape-index is c.shapes-test.false c.shapes.invariant
