use Rattle.std.proofs.Common.{◌≡◌, length}
use Rattle.json_value.specs.Reading as spec
use Rattle.json_reading.proofs.numbers.after_digits.Given as goal

abbrev pub invariant-loop-rest : goal.invariant-loop-rest
invariant-loop-rest l = spec.after_digits l.rest ≡ spec.after_digits l.bytes

abbrev pub decreases-loop-rest : goal.decreases-loop-rest
decreases-loop-rest l = length l.rest
