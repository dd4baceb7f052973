use Rattle.std.proofs.Common.{◌++◌}
use Rattle.std.specs.Prelude.{codes, true}
use Rattle.json_writer.proofs.Appending.{as_part, then}
use Rattle.topojson_writer.specs.Decoded.{line_in}
use Rattle.topojson_writer.specs.LineTexts.{positions_text}
use Rattle.topojson_writer.proofs.LineTexts.{closed_text}
use Rattle.topojson_writer.proofs.topology_lines.put_positions.Goals as goal

pub returns-clause-text : goal.returns-clause-text
returns-clause-text g c =
    let line = line_in c.args.topology.now c.args.is_closed c.args.refs.now in
    let old = g.O.Out.text c.args.out.now in
    let positions = rw c.walk.ensures at c.put_walk.ensures.text in
    as_part old (closed_text line) (then old (codes "[" ++ positions_text true line) (codes "]") (then old (codes "[") (positions_text true line) c.put.ensures.text positions) c.put-2.ensures.text)
