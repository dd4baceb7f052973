use Rattle.topo_model.proofs.Renumbered.{Renumbered}
use Rattle.topo_model.proofs.trimming.renumbering.Given as goal

abbrev pub invariant-arcs : goal.invariant-arcs
invariant-arcs l = Renumbered l.used l.flag-index l.new_index l.renumbering.items
