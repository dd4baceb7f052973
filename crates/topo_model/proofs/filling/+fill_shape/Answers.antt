use Rattle.std.proofs.Common.{refl, ap, ◌∙◌, length-set}
use Rattle.geometry.specs.declared.shape.Geometry.TheVariants as g
use Rattle.topo_model.specs.Drafts.{as_made, line_filled, lines_filled, shape_filled}
use Rattle.topo_model.proofs.InPlaces.{begun, done, filled_at, level, next}
use Rattle.topo_model.proofs.Unvisited.{unvisited_after}
use Rattle.topo_model.proofs.filling.+fill_shape.Goals as goal

pub shapes-init : goal.shapes-init
shapes-init t c = record { left = (refl, λ k d h. refl); made = begun shape_filled c.args.remaining.now c.as_mut_slice-shape-items.result.now }

pub shapes-preserved : goal.shapes-preserved
shapes-preserved t c = record {
  left = (
    length-set c.shapes.shape-items c.shapes.shape-index c.fill_shape.new.shape ∙ c.shapes.invariant.left.0,
    unvisited_after c.as_mut_slice-shape-items.result.now c.shapes.shape-items c.shapes.shape-index c.fill_shape.new.shape c.shapes.invariant.left.1,
  );
  made = next shape_filled c.args.remaining.now c.as_mut_slice-shape-items.result.now c.shapes.remaining c.fill_shape.new.remaining c.shapes.shape-index c.shapes.shape-items c.shape-item.result c.fill_shape.new.shape c.shapes-test.true
      c.shapes.invariant.made c.fill_shape.ensures;
}

pub returns-in-Point : goal.returns-in-Point
returns-in-Point t c = rw c.in-Point.is (ap (λ h. h c.args.remaining.now) (filled_at.point c.in-Point.field-0))

pub returns-in-MultiPoint : goal.returns-in-MultiPoint
returns-in-MultiPoint t c = rw c.in-MultiPoint.is (ap (λ h. h c.args.remaining.now) (filled_at.points c.in-MultiPoint.field-0))

pub returns-in-Line : goal.returns-in-Line
returns-in-Line t c = rw (c.in-Line.is, g.outs-Line) (ap (λ h. h c.args.remaining.now) (filled_at.line c.in-Line.refs) ∙ ap (as_made g.Line) (c.fill.ensures))

pub returns-in-Lines : goal.returns-in-Lines
returns-in-Lines t c =
    rw (c.in-Lines.is, g.outs-Lines)
    (level line_filled g.Lines _ c.in-Lines.lines c.as_mut_slice.result.now c.fill_all.new.parts c.args.remaining.now c.fill_all.new.remaining (filled_at.lines c.in-Lines.lines) refl (c.as_mut_slice.ensures.value ∙ c.in-Lines.lines-is) c.fill_all.ensures)

pub returns-in-Area : goal.returns-in-Area
returns-in-Area t c =
    rw (c.in-Area.is, g.outs-Area)
    (level line_filled g.Area _ c.in-Area.rings c.as_mut_slice-in-Area.result.now c.fill_all-in-Area.new.parts c.args.remaining.now c.fill_all-in-Area.new.remaining (filled_at.area c.in-Area.rings) refl
    (c.as_mut_slice-in-Area.ensures.value ∙ c.in-Area.rings-is) c.fill_all-in-Area.ensures)

pub returns-in-Areas : goal.returns-in-Areas
returns-in-Areas t c =
    rw (c.in-Areas.is, g.outs-Areas)
    (level lines_filled g.Areas _ c.in-Areas.areas c.as_mut_slice-in-Areas.result.now c.fill_all-in-Areas.new.parts c.args.remaining.now c.fill_all-in-Areas.new.remaining (filled_at.areas c.in-Areas.areas) refl
    (c.as_mut_slice-in-Areas.ensures.value ∙ c.in-Areas.areas-is) c.fill_all-in-Areas.ensures)

pub returns-after-shapes : goal.returns-after-shapes
returns-after-shapes t c =
    rw (c.in-Group.is, g.outs-Group)
    (level shape_filled g.Group _ c.in-Group.shapes c.as_mut_slice-shape-items.result.now c.shapes.shape-items c.args.remaining.now c.shapes.remaining (filled_at.group c.in-Group.shapes) refl
    (c.as_mut_slice-shape-items.ensures.value ∙ c.in-Group.shapes-is)
    (done shape_filled c.args.remaining.now c.as_mut_slice-shape-items.result.now c.shapes.remaining c.shapes.shape-index c.shapes.shape-items c.shapes-test.false c.shapes.invariant.made))
