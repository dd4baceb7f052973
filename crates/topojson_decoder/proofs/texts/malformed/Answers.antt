use Rattle.json_reading.proofs.TextsFound.{not_read}
use Rattle.json_value.specs.Limits.{topology_depth}
use Rattle.topojson_decoder.proofs.texts.malformed.Goals as goal

pub unreachable-requires : goal.unreachable-requires
unreachable-requires c = not_read topology_depth c.args.bytes.now _ c.in-Ok.ensures.read.0 (c.requires c.in-Ok.ensures.read.0) c.in-Ok.ensures.read.1.1
