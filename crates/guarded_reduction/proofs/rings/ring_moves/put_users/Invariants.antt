use Rattle.std.proofs.Common.{map, take}
use Rattle.guarded_reduction.specs.Moves.{AddsUser}
use Rattle.guarded_reduction.proofs.rings.ring_moves.put_users.Given as goal

-- with the arcs so far
abbrev pub invariant-refs : goal.invariant-refs
invariant-refs l = AddsUser l.ring (take l.arc-index l.refs) (map (λ u. u.items) l.fn.users.items) (map (λ u. u.items) l.users.items)
