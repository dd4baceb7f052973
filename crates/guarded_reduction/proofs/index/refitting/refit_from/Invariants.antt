use Rattle.guarded_reduction.specs.Indexes.{AreFitted}
use Rattle.guarded_reduction.proofs.index.refitting.refit_from.Given as goal

abbrev pub invariant-loop-node : goal.invariant-loop-node
invariant-loop-node l = AreFitted l.extents l.positions l.present l.places 1

abbrev pub decreases-loop-node : goal.decreases-loop-node
decreases-loop-node l = l.node
