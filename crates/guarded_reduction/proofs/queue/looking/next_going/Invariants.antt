use Rattle.std.specs.Prelude.{◌≡◌, length}
use Rattle.guarded_reduction.specs.States.{IsFixing, IsQueued}
use Rattle.guarded_reduction.proofs.queue.looking.next_going.Given as goal

abbrev pub invariant-corners : goal.invariant-corners
invariant-corners l = record {
  queued : IsQueued l.threshold l.places l.queue l.waiting;
  fixing : IsFixing l.fn.places l.fn.rings l.places;
  rings : l.rings ≡ l.fn.rings;
}

abbrev pub decreases-corners : goal.decreases-corners
decreases-corners l = length l.queue
