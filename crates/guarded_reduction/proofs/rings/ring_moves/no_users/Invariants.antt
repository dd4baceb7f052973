use Rattle.std.proofs.Common.{◌≡◌, [], map, replicate}
use Rattle.guarded_reduction.proofs.rings.ring_moves.no_users.Given as goal

abbrev pub invariant-loop-arc : goal.invariant-loop-arc
invariant-loop-arc l = map (λ u. u.items) l.users.items ≡ replicate l._arc []
