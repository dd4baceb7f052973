use Rattle.std.proofs.Common.{◌≡◌, length}
use Rattle.json_value.specs.Reading as spec
use Rattle.json_reading.proofs.bytes.skip.Given as goal

abbrev pub invariant-loop-rest : goal.invariant-loop-rest
invariant-loop-rest l = spec.skip l.rest ≡ spec.skip l.bytes

abbrev pub decreases-loop-rest : goal.decreases-loop-rest
decreases-loop-rest l = length l.rest
