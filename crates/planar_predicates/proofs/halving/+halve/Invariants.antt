use Rattle.std.proofs.Common.{length}
use Rattle.planar_predicates.proofs.halving.+halve.Given as goal

abbrev pub decreases-halve : goal.decreases-halve
decreases-halve g l = length l.items.now
