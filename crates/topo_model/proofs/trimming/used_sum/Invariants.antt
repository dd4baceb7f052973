use Rattle.topo_model.proofs.Chosen.{Counts}
use Rattle.topo_model.proofs.trimming.used_sum.Given as goal

abbrev pub invariant-counts : goal.invariant-counts
invariant-counts l = Counts l.used l.counts l.count-index l.flags l.total
