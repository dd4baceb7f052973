use Rattle.topojson_decoder.proofs.LeapMasks.{either_mark}
use Rattle.topojson_decoder.proofs.leaping.either_among.Goals as goal

pub returns : goal.returns
returns c = either_mark c.args.one c.args.other c.args.lanes c.requires
