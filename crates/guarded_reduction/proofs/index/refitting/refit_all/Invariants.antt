use Rattle.std.proofs.Common.{◌-◌, ◌≤◌, length}
use Rattle.guarded_reduction.specs.Indexes.{AreFitted}
use Rattle.guarded_reduction.proofs.index.refitting.refit_all.Given as goal

abbrev pub invariant-loop-node : goal.invariant-loop-node
invariant-loop-node l = record {
  within : l.node ≤ length l.extents;
  fitted : AreFitted l.extents l.positions l.present l.places l.node;
}

abbrev pub decreases-loop-node : goal.decreases-loop-node
decreases-loop-node l = l.node - 1
