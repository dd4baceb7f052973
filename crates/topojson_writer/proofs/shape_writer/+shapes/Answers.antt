use Rattle.std.specs.Prelude.{codes}
use Rattle.topojson_writer.specs.FeatureValues.{shape_value}
use Rattle.json_writer.proofs.Appending.{begins, list-goes, list-ends}
use Rattle.json_writer.proofs.Lists.{array-text, text_by}
use Rattle.topojson_writer.proofs.shape_writer.+shapes.Goals as goal

pub put_shapes-shapes-init : goal.put_shapes-shapes-init
put_shapes-shapes-init g t c = begins _ (array-text shape_value c.args.shapes.now) c.put.ensures.text c.put.ensures.kept

pub put_shapes-shapes-preserved : goal.put_shapes-shapes-preserved
put_shapes-shapes-preserved g t c = list-goes (text_by shape_value) (codes "]") _ _ _ c.shapes.invariant _ c.shapes-test.true c.shape-item.is c.put_comma.ensures.text c.put_comma.ensures.kept c.put_shape.ensures.text c.put_shape.ensures.kept

pub put_shapes-returns-clause-text : goal.put_shapes-returns-clause-text
put_shapes-returns-clause-text g t c = list-ends (text_by shape_value) (codes "]") _ _ _ c.shapes.invariant c.shapes-test.false c.put-2.ensures.text
