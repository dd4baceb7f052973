use Rattle.std.proofs.Common.{◌≡◌, ◌++◌, replicate}
use Rattle.guarded_reduction.proofs.rings.ring_moves.put_owner.Given as goal

abbrev pub invariant-loop-place : goal.invariant-loop-place
invariant-loop-place l = l.owners.items ≡ l.fn.owners.items ++ replicate l._place l.arc
