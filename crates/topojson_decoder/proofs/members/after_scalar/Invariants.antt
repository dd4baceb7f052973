use Rattle.std.proofs.Common.{length}
use Rattle.topojson_decoder.proofs.members.after_scalar.Given as goal

abbrev pub decreases-loop-rest : goal.decreases-loop-rest
decreases-loop-rest l = length l.rest
