use Rattle.std.proofs.Common.{length}
use Rattle.topojson_decoder.proofs.members.up_to_bracket.Given as goal

abbrev pub decreases-loop-front : goal.decreases-loop-front
decreases-loop-front l = length l.front
