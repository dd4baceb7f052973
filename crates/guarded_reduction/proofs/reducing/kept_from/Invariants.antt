use Rattle.std.proofs.Common.{◌≡◌}
use Rattle.guarded_reduction.specs.Numbers.{kept_indexes}
use Rattle.guarded_reduction.proofs.reducing.kept_from.Given as goal

-- those so far
abbrev pub invariant-loop-i : goal.invariant-loop-i
invariant-loop-i l = l.kept.items ≡ kept_indexes l.stays l.first l.i
