use Rattle.std.proofs.Common.{◌+◌, ◌-◌, ◌<◌, ◌≤◌, length}
use Rattle.segment_crossings.proofs.gathering.end_along.Given as goal

abbrev pub invariant-loop-end : goal.invariant-loop-end
invariant-loop-end l = record { more : l.first + 1 < l.end; within : l.end ≤ length l.positions }

abbrev pub decreases-loop-end : goal.decreases-loop-end
decreases-loop-end l = length l.positions - l.end
