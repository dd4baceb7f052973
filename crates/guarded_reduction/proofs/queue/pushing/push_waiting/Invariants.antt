use Rattle.std.proofs.Common.{ℕ, ◌≤◌, ◌⊎◌, length}
use Rattle.std.specs.List.{Contains}
use Rattle.guarded_reduction.specs.declared.queue.entry.Entry.{Entry}
use Rattle.guarded_reduction.specs.Entries.{IsDue, IsSound, entry_in, turned}
use Rattle.guarded_reduction.specs.Waiting.{WaitsFrom, WaitsOn}
use Rattle.guarded_reduction.proofs.queue.pushing.push_waiting.Given as goal

-- of those that wait on the place some are pushed, and the others are ahead
abbrev pub invariant-waits : goal.invariant-waits
invariant-waits l = record {
  within : l.number ≤ length l.waiting.waits;
  has : (d : Entry) → Contains l.fn.queue (turned d) → Contains l.queue (turned d);
  here : (v : ℕ) → WaitsOn l.waiting l.holder v → (IsDue l.threshold l.places v → Contains l.queue (turned (entry_in l.places v))) ⊎ WaitsFrom l.waiting.waits l.number v;
  only : (d : Entry) → Contains l.queue (turned d) → Contains l.fn.queue (turned d) ⊎ IsSound l.threshold l.places.positions d;
}

abbrev pub decreases-waits : goal.decreases-waits
decreases-waits l = l.number
