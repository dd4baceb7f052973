use Rattle.std.proofs.Common.{length}
use Rattle.fault_explanations.proofs.sight.without_blanks.Given as goal

abbrev pub decreases-loop-rest : goal.decreases-loop-rest
decreases-loop-rest l = length l.rest
