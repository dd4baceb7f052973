use Rattle.std.proofs.Common.{map, ap, sym, ◌∙◌}
use Rattle.geometry.specs.declared.shape.Geometry.TheVariants as g
use Rattle.geometry.specs.Lists.{joined}
use Rattle.geometry.specs.Pruning.{lines_and_rings}
use Rattle.extraction.specs.Extracts.{no_refs, relined}
use Rattle.extraction.proofs.TakenOut.{alone, begun, joined_more, left_at, lines_at, one_more}
use Rattle.extraction.proofs.taking_out.+extract_shape.Goals as goal

pub shapes-init : goal.shapes-init
shapes-init t c = begun c.args.outlines.now c.in_ok-made-in-Group.made.items c.in_ok-made-in-Group.ensures.items

pub shapes-preserved : goal.shapes-preserved
shapes-preserved t c =
    one_more (λ ss. joined (map lines_and_rings ss)) (relined no_refs) c.shapes.yielded c.in-Some.shape _ c.args.outlines.now c.shapes.outlines c.extract_shape.new.outlines c.shapes.made.items
    c.push.new.self.items c.in_ok-extract_shape-in-Group.field-0 (joined_more lines_and_rings c.shapes.yielded c.in-Some.shape) c.shapes.invariant c.in_ok-extract_shape-in-Group.ensures c.in_ok-push-in-Group.ensures.items

pub returns-in-Point : goal.returns-in-Point
returns-in-Point t c =
    alone c.args.shape c.args.outlines.now (g.Point c.of.result) (ap lines_and_rings c.in-Point.is ∙ lines_at.point c.in-Point.position)
    (ap (relined no_refs) c.in-Point.is ∙ left_at.point c.in-Point.position ∙ ap g.Point (sym c.of.ensures))

pub returns-in_ok-cells-in-MultiPoint : goal.returns-in_ok-cells-in-MultiPoint
returns-in_ok-cells-in-MultiPoint t c =
    alone c.args.shape c.args.outlines.now (g.MultiPoint c.in_ok-cells-in-MultiPoint.field-0) (ap lines_and_rings c.in-MultiPoint.is ∙ lines_at.points c.in-MultiPoint.positions)
    (ap (relined no_refs) c.in-MultiPoint.is ∙ left_at.points c.in-MultiPoint.positions ∙ ap g.MultiPoint (sym (c.in_ok-cells-in-MultiPoint.ensures ∙ c.as_slice.ensures)))
