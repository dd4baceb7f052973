use Rattle.std.proofs.Common.{length}
use Rattle.std.specs.Str.{is_utf8}
use Rattle.json_value.specs.Reading.{value_at}
use Rattle.json_cursor.specs.Arrays.{prefix_value, led_by}
use Rattle.json_cursor.proofs.ArrayParts as part
use Rattle.json_cursor.proofs.elements.led_array_at.Goals as goal

pub returns-in-NoArray : goal.returns-in-NoArray
returns-in-NoArray g c = part.no_array c.args.wrong (led_by (g.E.Element.reads c.args.reader)) c.args.counts.now (prefix_value c.args.depth_left c.args.bytes.now) (rw c.in-NoArray.is at c.opening_at-opening.ensures)

pub returns-in-Empty : goal.returns-in-Empty
returns-in-Empty g c = rw c.count_empty.ensures
    (part.counted_array c.args.wrong (led_by (g.E.Element.reads c.args.reader)) c.args.counts.now (prefix_value c.args.depth_left c.args.bytes.now) _ (rw c.in-Empty.is at c.opening_at-opening.ensures))

pub returns-in-Filled : goal.returns-in-Filled
returns-in-Filled g c =
    part.filled_answers c.args.wrong (led_by (g.E.Element.reads c.args.reader)) c.args.counts.now (prefix_value c.args.depth_left c.args.bytes.now) (value_at is_utf8 c.in-Filled.below) (length c.opening_at-opening.result.1.now) c.opening_at-opening.result.1.now
    (rw c.in-Filled.is at c.opening_at-opening.ensures) (λ x. x) _ c.led_at.result c.led_at.ensures
