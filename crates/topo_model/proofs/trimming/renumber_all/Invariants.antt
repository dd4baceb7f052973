use Rattle.topo_model.specs.Renumbering.{renumbered_by}
use Rattle.geometry.proofs.Moved.{Replaced}
use Rattle.topo_model.proofs.trimming.renumber_all.Given as goal

abbrev pub invariant-refs : goal.invariant-refs
invariant-refs l = Replaced (renumbered_by l.renumbering) l.fn.refs l.index-index l.refs
