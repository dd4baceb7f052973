use Rattle.std.proofs.Common.{◌≡◌, ◌≤◌, length, map}
use Rattle.guarded_reduction.specs.Moves.{AreUsers}
use Rattle.guarded_reduction.proofs.rings.ring_moves.users_of.Given as goal

-- the rings so far
abbrev pub invariant-loop-ring : goal.invariant-loop-ring
invariant-loop-ring l = record {
  within : l.ring ≤ length l.rings;
  many : length l.users.items ≡ l.n;
  users : AreUsers l.ring l.rings (map (λ u. u.items) l.users.items);
}
