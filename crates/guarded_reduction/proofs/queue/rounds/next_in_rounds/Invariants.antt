use Rattle.std.specs.Prelude.{◌≡◌, ◌-◌, ◌≤◌}
use Rattle.guarded_reduction.specs.States.{IsFixing, IsQueued}
use Rattle.guarded_reduction.proofs.queue.rounds.next_in_rounds.Given as goal

abbrev pub invariant-rounds : goal.invariant-rounds
invariant-rounds l = record {
  queued : IsQueued l.round l.places l.queue l.waiting;
  fixing : IsFixing l.fn.places l.fn.rings l.places;
  rings : l.rings ≡ l.fn.rings;
  round : l.round ≤ l.threshold;
}

abbrev pub decreases-rounds : goal.decreases-rounds
decreases-rounds l = l.threshold - l.round
