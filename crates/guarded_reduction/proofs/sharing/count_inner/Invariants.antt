use Rattle.std.proofs.Common.{◌≡◌, ◌+◌, drop}
use Rattle.guarded_meaning.specs.Weights.{interior_count}
use Rattle.guarded_reduction.proofs.sharing.count_inner.Given as goal

-- with those of the other arcs they are all
abbrev pub invariant-arcs : goal.invariant-arcs
invariant-arcs l = l.count + interior_count (drop l.arc-index l.arcs) ≡ interior_count l.arcs
