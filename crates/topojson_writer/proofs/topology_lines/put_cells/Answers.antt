use Rattle.std.specs.Option.{option_copied}
use Rattle.json_writer.proofs.Appending.{begins}
use Rattle.topojson_writer.specs.FeatureValues.{position_value}
use Rattle.topojson_types.specs.Transforms.{place}
use Rattle.topojson_writer.proofs.Elements.{decoded-text}
use Rattle.topojson_writer.proofs.topology_lines.put_cells.Goals as goal

pub cells-init : goal.cells-init
cells-init g c = begins _ (decoded-text position_value (place (option_copied c.args.transform)) c.args.cells.now) c.put.ensures.text c.put.ensures.kept
