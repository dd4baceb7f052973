use Rattle.std.proofs.Common.{◌≡◌, ℕ, ◌-◌, ◌*◌, drop, length, slice_index_or}
use Rattle.guarded_reduction.specs.Moves.{times}
use Rattle.guarded_reduction.proofs.rings.ring_moves.lose.Given as goal

-- what the others in the list lose is still to go
abbrev pub invariant-users : goal.invariant-users
invariant-users l = record {
  many : length l.sums.items ≡ length l.fn.sums.items;
  each : (j : ℕ) → slice_index_or l.sums.items j 0 - times j (drop l.user-index l.users) * l.lost ≡ slice_index_or l.fn.sums.items j 0 - times j l.users * l.lost;
}
