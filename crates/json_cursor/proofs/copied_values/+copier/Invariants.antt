use Rattle.std.proofs.Common.{length, ◌+◌, ◌*◌}
use Rattle.json_value.specs.Text.{json_text}
use Rattle.json_value.specs.Reading.{member_at, value_at}
use Rattle.json_cursor.specs.Copying.{any, whole_member}
use Rattle.json_cursor.proofs.CopiedLists.{SoFar}
use Rattle.json_cursor.proofs.copied_values.+copier.Given as goal

abbrev pub decreases-copy_value : goal.decreases-copy_value
decreases-copy_value l = 4 * l.deepest

abbrev pub decreases-copy_member : goal.decreases-copy_member
decreases-copy_member l = 4 * l.deepest + 1

abbrev pub decreases-copy_elements : goal.decreases-copy_elements
decreases-copy_elements l = 4 * l.deepest + 2

abbrev pub decreases-copy_members : goal.decreases-copy_members
decreases-copy_members l = 4 * l.deepest + 2

abbrev pub decreases-copy_array : goal.decreases-copy_array
decreases-copy_array l = 4 * l.deepest + 3

abbrev pub decreases-copy_object : goal.decreases-copy_object
decreases-copy_object l = 4 * l.deepest + 3

abbrev pub invariant-copy_elements-loop : goal.invariant-copy_elements-loop
invariant-copy_elements-loop l = SoFar 93 (value_at any l.deepest) json_text (length l.inside) l.counter l.inside l.rest l.fn.text.items l.text.items

abbrev pub invariant-copy_members-loop : goal.invariant-copy_members-loop
invariant-copy_members-loop l = SoFar 125 (member_at any (value_at any l.deepest)) whole_member (length l.inside) l.counter l.inside l.rest l.fn.text.items l.text.items
