use Rattle.std.proofs.Common.{◌≡◌, ℕ, List, length, ◌+◌, ◌-◌, ◌*◌}
use Rattle.std.specs.Str.{is_utf8}
use Rattle.json_value.specs.declared.json.Json.{Json}
use Rattle.json_value.specs.Reading as spec
use Rattle.json_reading.proofs.StringLoop.{with_prefix}
use Rattle.json_reading.proofs.checked_values.+passing.Given as goal

abbrev pub decreases-passed_value : goal.decreases-passed_value
decreases-passed_value l = 4 * l.deepest

abbrev pub decreases-after_member : goal.decreases-after_member
decreases-after_member l = 4 * l.deepest + 1

abbrev pub decreases-after_elements : goal.decreases-after_elements
decreases-after_elements l = 4 * l.deepest + 2

abbrev pub decreases-after_members : goal.decreases-after_members
decreases-after_members l = 4 * l.deepest + 2

abbrev pub decreases-after_array : goal.decreases-after_array
decreases-after_array l = 4 * l.deepest + 3

abbrev pub decreases-after_object : goal.decreases-after_object
decreases-after_object l = 4 * l.deepest + 3

-- some elements were passed, and how more of them go on
abbrev pub invariant-after_elements-loop : goal.invariant-after_elements-loop
invariant-after_elements-loop l = (vs : List Json) × (with_prefix vs (spec.elements_at is_utf8 l.deepest (length l.bytes - l.counter) l.rest) ≡ spec.elements_at is_utf8 l.deepest (length l.bytes) l.bytes)

-- some members were passed, and how more of them go on
abbrev pub invariant-after_members-loop : goal.invariant-after_members-loop
invariant-after_members-loop l = (ms : List (List ℕ × Json)) × (with_prefix ms (spec.members_at is_utf8 l.deepest (length l.bytes - l.counter) l.rest) ≡ spec.members_at is_utf8 l.deepest (length l.bytes) l.bytes)
