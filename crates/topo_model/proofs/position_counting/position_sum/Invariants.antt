use Rattle.topo_model.proofs.Counted.{CountedTo}
use Rattle.topo_model.proofs.position_counting.position_sum.Given as goal

abbrev pub invariant-arcs : goal.invariant-arcs
invariant-arcs l = CountedTo l.arcs l.arc-index l.total
