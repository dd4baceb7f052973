use Rattle.std.specs.Prelude.{◌≡◌, ◌⊎◌, ◌≤◌, length}
use Rattle.guarded_reduction.specs.States.{IsHeld, IsQueued}
use Rattle.guarded_reduction.proofs.queue.looking.next_corner.Given as goal

abbrev pub invariant-entries : goal.invariant-entries
invariant-entries l = record {
  queued : IsQueued l.threshold l.fn.places l.queue l.waiting;
  held : (l.held ≡ length l.fn.places.positions) ⊎ IsHeld l.fn.places l.waiting l.held;
  fewer : length l.queue ≤ length l.fn.queue;
  same : l.places ≡ l.fn.places;
}

abbrev pub decreases-entries : goal.decreases-entries
decreases-entries l = length l.queue
