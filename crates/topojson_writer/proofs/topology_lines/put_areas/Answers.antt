use Rattle.std.specs.Prelude.{codes}
use Rattle.std.proofs.Common.{true, map}
use Rattle.json_writer.proofs.Appending.{begins, list-goes, list-ends}
use Rattle.json_writer.proofs.Lists.{text_by}
use Rattle.topojson_writer.specs.FeatureValues.{lines_value}
use Rattle.topojson_writer.specs.Decoded.{line_in}
use Rattle.topojson_writer.proofs.Elements.{decoded-text}
use Rattle.topojson_writer.proofs.topology_lines.put_areas.Goals as goal

pub areas-init : goal.areas-init
areas-init g c = begins _ (decoded-text lines_value (map (line_in c.args.topology.now true)) c.args.areas.now) c.put.ensures.text c.put.ensures.kept

pub areas-preserved : goal.areas-preserved
areas-preserved g c =
    list-goes (text_by (λ rs. lines_value (map (line_in c.args.topology.now true) rs))) (codes "]") _ _ _ c.areas.invariant _ c.areas-test.true c.rings-item.is
    c.put_comma.ensures.text c.put_comma.ensures.kept (rw c.as_slice.ensures at c.put_lines.ensures.text) c.put_lines.ensures.kept

pub returns-clause-text : goal.returns-clause-text
returns-clause-text g c = list-ends (text_by (λ rs. lines_value (map (line_in c.args.topology.now true) rs))) (codes "]") _ _ _ c.areas.invariant c.areas-test.false c.put-2.ensures.text
