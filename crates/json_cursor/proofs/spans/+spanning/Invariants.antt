use Rattle.std.proofs.Common.{length, ◌+◌, ◌*◌}
use Rattle.json_value.specs.Text.{json_text}
use Rattle.json_value.specs.Reading.{member_at, value_at}
use Rattle.json_cursor.specs.Copying.{any, whole_member}
use Rattle.json_cursor.proofs.SpanParts.{SpansSoFar}
use Rattle.json_cursor.proofs.spans.+spanning.Given as goal

abbrev pub decreases-rest_after_value : goal.decreases-rest_after_value
decreases-rest_after_value l = 4 * l.deepest

abbrev pub decreases-rest_after_member : goal.decreases-rest_after_member
decreases-rest_after_member l = 4 * l.deepest + 1

abbrev pub decreases-rest_after_elements : goal.decreases-rest_after_elements
decreases-rest_after_elements l = 4 * l.deepest + 2

abbrev pub decreases-rest_after_members : goal.decreases-rest_after_members
decreases-rest_after_members l = 4 * l.deepest + 2

abbrev pub decreases-rest_after_array : goal.decreases-rest_after_array
decreases-rest_after_array l = 4 * l.deepest + 3

abbrev pub decreases-rest_after_object : goal.decreases-rest_after_object
decreases-rest_after_object l = 4 * l.deepest + 3

abbrev pub invariant-rest_after_elements-loop : goal.invariant-rest_after_elements-loop
invariant-rest_after_elements-loop l = SpansSoFar 93 (value_at any l.deepest) json_text (length l.inside) l.counter l.inside l.rest

abbrev pub invariant-rest_after_members-loop : goal.invariant-rest_after_members-loop
invariant-rest_after_members-loop l = SpansSoFar 125 (member_at any (value_at any l.deepest)) whole_member (length l.inside) l.counter l.inside l.rest
