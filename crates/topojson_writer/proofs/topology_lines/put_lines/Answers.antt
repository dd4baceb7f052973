use Rattle.json_writer.proofs.Appending.{begins}
use Rattle.topojson_writer.specs.FeatureValues.{positions_value}
use Rattle.topojson_writer.specs.Decoded.{line_in}
use Rattle.topojson_writer.proofs.Elements.{decoded-text}
use Rattle.topojson_writer.proofs.topology_lines.put_lines.Goals as goal

pub lines-init : goal.lines-init
lines-init g c = begins _ (decoded-text positions_value (line_in c.args.topology.now c.args.is_closed) c.args.lines.now) c.put.ensures.text c.put.ensures.kept
