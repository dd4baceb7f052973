use Rattle.std.proofs.Common.{◌≡◌, ◌<◌, ◌^◌, length}
use Rattle.decimal_text.specs.Digits.{digits_value_after}
use Rattle.json_value.specs.Reading.{after_digits}
use Rattle.unit_scanning.specs.Numbers.{digits_prefix}
use Rattle.unit_scanning.proofs.digits.digits_at.Given as goal

abbrev pub invariant-loop-rest : goal.invariant-loop-rest
invariant-loop-rest l = record {
  value : digits_value_after l.value (digits_prefix l.rest) ≡ digits_value_after l.start (digits_prefix l.bytes);
  rest : after_digits l.rest ≡ after_digits l.bytes;
  small : l.value < 10 ^ 18;
}

abbrev pub decreases-loop-rest : goal.decreases-loop-rest
decreases-loop-rest l = length l.rest
