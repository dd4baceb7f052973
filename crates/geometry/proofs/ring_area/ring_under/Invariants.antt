use Rattle.std.proofs.Common.{◌≡◌, ◌*◌, ◌≤◌, ◌+ℤ◌, drop, unsigned_abs}
use Rattle.geometry.specs.Areas.{shoelace, sum_after, most_turned}
use Rattle.geometry.proofs.ring_area.ring_under.Given as goal

abbrev pub invariant-positions : goal.invariant-positions
invariant-positions l = record {
  sum : l.sum.sum +ℤ sum_after l.sum.last (drop l.position-index l.ring) ≡ shoelace l.ring;
  bound : unsigned_abs l.sum.sum ≤ l.position-index * most_turned;
}
