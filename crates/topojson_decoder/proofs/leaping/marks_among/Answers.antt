use Rattle.topojson_decoder.proofs.LeapMasks.{marks}
use Rattle.topojson_decoder.proofs.leaping.marks_among.Goals as goal

pub returns : goal.returns
returns c = marks c.args.lanes c.requires
