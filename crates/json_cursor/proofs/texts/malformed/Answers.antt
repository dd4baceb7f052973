use Rattle.json_reading.proofs.TextsFound.{not_read}
use Rattle.json_cursor.proofs.texts.malformed.Goals as goal

pub unreachable-requires : goal.unreachable-requires
unreachable-requires c = not_read c.args.deepest c.args.bytes.now _ c.in-Ok.ensures.read.0 (c.requires.1 c.in-Ok.ensures.read.0) c.in-Ok.ensures.read.1.1
