use Rattle.std.proofs.Common.{ℕ, ◌<◌, ◌⊎◌}
use Rattle.std.specs.List.{Contains}
use Rattle.geometry.specs.Units.{area_limit}
use Rattle.guarded_reduction.specs.declared.queue.entry.Entry.{Entry}
use Rattle.guarded_reduction.specs.Entries.{IsDue, IsSound, entry_in, turned}
use Rattle.guarded_reduction.specs.Linking.{IsCorner}
use Rattle.guarded_reduction.proofs.queue.rounds.begin_round.Given as goal

-- those so far
abbrev pub invariant-loop-place : goal.invariant-loop-place
invariant-loop-place l = record {
  has : (v : ℕ) → v < l.place → IsDue l.until l.places v → ((entry_in l.places v).area < l.from) ⊎ Contains l.corners.items (turned (entry_in l.places v));
  below : (v : ℕ) → v < l.place → IsCorner l.places v → (entry_in l.places v).area < area_limit;
  sound : (e : Entry) → Contains l.corners.items (turned e) → IsSound l.until l.places.positions e;
}
