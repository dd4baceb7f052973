use Rattle.std.proofs.Common.{◌≡◌, length, ◌+◌, ◌-◌, ◌*◌}
use Rattle.std.specs.Str.{is_utf8}
use Rattle.json_value.specs.Reading as spec
use Rattle.json_reading.proofs.StringLoop.{with_prefix}
use Rattle.json_reading.proofs.values.+reader.Given as goal

abbrev pub decreases-value_at : goal.decreases-value_at
decreases-value_at l = 4 * l.deepest

abbrev pub decreases-member_at : goal.decreases-member_at
decreases-member_at l = 4 * l.deepest + 1

abbrev pub decreases-elements_at : goal.decreases-elements_at
decreases-elements_at l = 4 * l.deepest + 2

abbrev pub decreases-members_at : goal.decreases-members_at
decreases-members_at l = 4 * l.deepest + 2

abbrev pub decreases-array_at : goal.decreases-array_at
decreases-array_at l = 4 * l.deepest + 3

abbrev pub decreases-object_at : goal.decreases-object_at
decreases-object_at l = 4 * l.deepest + 3

abbrev pub invariant-elements_at-loop : goal.invariant-elements_at-loop
invariant-elements_at-loop l = with_prefix l.items.items (spec.elements_at is_utf8 l.deepest (length l.bytes - l.counter) l.rest) ≡ spec.elements_at is_utf8 l.deepest (length l.bytes) l.bytes

abbrev pub invariant-members_at-loop : goal.invariant-members_at-loop
invariant-members_at-loop l = with_prefix l.members.items (spec.members_at is_utf8 l.deepest (length l.bytes - l.counter) l.rest) ≡ spec.members_at is_utf8 l.deepest (length l.bytes) l.bytes
