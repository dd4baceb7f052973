use Rattle.std.proofs.Common.{◌≡◌, length}
use Rattle.json_reading.specs.Finding.{after_first}
use Rattle.json_reading.proofs.lanes.rest_after_first.Given as goal

abbrev pub invariant-loop-first : goal.invariant-loop-first
invariant-loop-first l = after_first l.byte l.bytes ≡ after_first l.byte l.rest

abbrev pub decreases-loop-first : goal.decreases-loop-first
decreases-loop-first l = length l.rest
