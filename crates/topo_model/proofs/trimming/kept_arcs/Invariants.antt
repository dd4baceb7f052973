use Rattle.topo_model.proofs.Chosen.{Chooses}
use Rattle.topo_model.proofs.trimming.kept_arcs.Given as goal

abbrev pub invariant-arcs : goal.invariant-arcs
invariant-arcs l = Chooses l.used l.yielded l.flags l.kept.items
