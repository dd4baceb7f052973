use Rattle.std.proofs.Common.{List, ℕ, ◌++◌, ap, ◌∙◌}
use Rattle.std.specs.Prelude.{codes}
use Rattle.json_value.specs.declared.json.Json.{Json}
use Rattle.json_value.specs.Text.{json_text}
use Rattle.json_writer.proofs.Appending.{as_part, then, begins, list-goes, list-ends}
use Rattle.json_writer.proofs.Lists.{array-text, text_by}
use Rattle.geometry.specs.Points.{Point}
use Rattle.topojson_types.specs.Topologies.{TopoShape}
use Rattle.topojson_types.specs.Values.{Geometrical, geometrical}
use Rattle.topojson_writer.specs.Texts.{members_text, parts_value, shape_value, type_text}
use Rattle.topojson_writer.proofs.GeometryObjects.{object-text}
use Rattle.topojson_writer.proofs.Shapes.{parts-text}
use Rattle.topojson_writer.proofs.Shapes as kind
use Rattle.topojson_writer.proofs.geometry_writer.+shapes.Goals as goal

-- ---- a geometry

abbrev value_of : (Point → Json) → TopoShape → List ℕ
value_of cell shape = json_text (parts_value (geometrical cell shape))

pub put_parts_value-returns-in-Point-clause-text : goal.put_parts_value-returns-in-Point-clause-text
put_parts_value-returns-in-Point-clause-text g t c = as_part _ (ap (value_of g.C.PutValue.value) c.in-Point.is ∙ ap json_text (kind.value-point g.C.PutValue.value _)) c.put.ensures.text

pub put_parts_value-returns-in-MultiPoint-clause-text : goal.put_parts_value-returns-in-MultiPoint-clause-text
put_parts_value-returns-in-MultiPoint-clause-text g t c = as_part _ (ap (value_of g.C.PutValue.value) c.in-MultiPoint.is ∙ ap json_text (kind.value-points g.C.PutValue.value _)) (rw c.as_slice.ensures at c.put_array.ensures.text)

pub put_parts_value-returns-in-Line-clause-text : goal.put_parts_value-returns-in-Line-clause-text
put_parts_value-returns-in-Line-clause-text g t c = as_part _ (ap (value_of g.C.PutValue.value) c.in-Line.is ∙ ap json_text (kind.value-line g.C.PutValue.value _)) (rw c.as_slice-in-Line.ensures at c.put_array-in-Line.ensures.text)

pub put_parts_value-returns-in-Lines-clause-text : goal.put_parts_value-returns-in-Lines-clause-text
put_parts_value-returns-in-Lines-clause-text g t c = as_part _ (ap (value_of g.C.PutValue.value) c.in-Lines.is ∙ ap json_text (kind.value-lines g.C.PutValue.value _)) (rw c.as_slice-in-Lines.ensures at c.put_array-in-Lines.ensures.text)

pub put_parts_value-returns-in-Area-clause-text : goal.put_parts_value-returns-in-Area-clause-text
put_parts_value-returns-in-Area-clause-text g t c = as_part _ (ap (value_of g.C.PutValue.value) c.in-Area.is ∙ ap json_text (kind.value-area g.C.PutValue.value _)) (rw c.as_slice-in-Area.ensures at c.put_array-in-Area.ensures.text)

pub put_parts_value-returns-in-Areas-clause-text : goal.put_parts_value-returns-in-Areas-clause-text
put_parts_value-returns-in-Areas-clause-text g t c = as_part _ (ap (value_of g.C.PutValue.value) c.in-Areas.is ∙ ap json_text (kind.value-areas g.C.PutValue.value _)) (rw c.as_slice-in-Areas.ensures at c.put_array-in-Areas.ensures.text)

pub put_parts_value-returns-in-Group-clause-text : goal.put_parts_value-returns-in-Group-clause-text
put_parts_value-returns-in-Group-clause-text g t c = as_part _ (ap (value_of g.C.PutValue.value) c.in-Group.is ∙ ap json_text (kind.value-group g.C.PutValue.value _)) (rw c.as_slice-in-Group.ensures at c.put_shapes.ensures.text)

pub put_parts-returns-clause-text : goal.put_parts-returns-clause-text
put_parts-returns-clause-text g t c = as_part _ (parts-text g.C.PutValue.value c.args.shape.now) (then _ _ _ (rw c.name_of_parts.ensures at c.put.ensures.text) c.put_parts_value.ensures.text)

pub put_shape-returns-clause-text : goal.put_shape-returns-clause-text
put_shape-returns-clause-text g t c =
    let o : Geometrical = geometrical g.C.PutValue.value c.args.shape.now in
    let end = then (g.O.Out.text c.put.new.self) (members_text o.parts) (codes "}") c.put_parts.ensures.text c.put-2.ensures.text in
    as_part _ (object-text o) (then (g.O.Out.text c.args.out.now) (type_text o) (members_text o.parts ++ codes "}") (rw c.type_start.ensures at c.put.ensures.text) end)

-- ---- geometries

pub put_shapes-shapes-init : goal.put_shapes-shapes-init
put_shapes-shapes-init g t c = begins _ (array-text (shape_value g.C.PutValue.value) c.args.shapes.now) c.put.ensures.text c.put.ensures.kept

pub put_shapes-shapes-preserved : goal.put_shapes-shapes-preserved
put_shapes-shapes-preserved g t c =
    list-goes (text_by (shape_value g.C.PutValue.value)) (codes "]") _ _ _ c.shapes.invariant _ c.shapes-test.true c.shape-item.is
    c.put_comma.ensures.text c.put_comma.ensures.kept c.put_shape.ensures.text c.put_shape.ensures.kept

pub put_shapes-returns-clause-text : goal.put_shapes-returns-clause-text
put_shapes-returns-clause-text g t c = list-ends (text_by (shape_value g.C.PutValue.value)) (codes "]") _ _ _ c.shapes.invariant c.shapes-test.false c.put-2.ensures.text
