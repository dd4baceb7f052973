use Rattle.std.proofs.Common.{◌≡◌, length, ◌-◌}
use Rattle.json_value.specs.Reading as spec
use Rattle.json_reading.proofs.StringLoop.{with_prefix}
use Rattle.json_reading.proofs.strings.chars_at.Given as goal

abbrev pub invariant-loop : goal.invariant-loop
invariant-loop l = with_prefix l.text.items (spec.chars_at (length l.bytes - l.counter) l.rest) ≡ spec.chars_at (length l.bytes) l.bytes
