use Rattle.std.proofs.Common.{drop}
use Rattle.std.specs.Prelude.{codes}
use Rattle.json_value.specs.Text.{json_text}
use Rattle.json_writer.proofs.Appending.{UpTo}
use Rattle.json_writer.proofs.Lists.{list_left, text_by}
use Rattle.topojson_writer.specs.Texts.{shape_value, shapes_value}
use Rattle.topojson_writer.proofs.geometry_writer.+shapes.Given as goal

abbrev pub invariant-put_shapes-shapes : goal.invariant-put_shapes-shapes
invariant-put_shapes-shapes g l =
    UpTo g.O.Out.text g.O.Out.good l.fn.out l.out (json_text (shapes_value g.C.PutValue.value l.shapes))
    (list_left (text_by (shape_value g.C.PutValue.value)) (codes "]") l.is_first (drop l.shape-index l.shapes))
