use Rattle.json_cursor.proofs.Openings.{is_no_array, too_deep, is_empty, is_filled}
use Rattle.json_cursor.proofs.marks.opening_at.Goals as goal

pub returns-in_default : goal.returns-in_default
returns-in_default c = is_no_array c.args.depth_left c.args.bytes.now c.in_default.ensures

pub returns-then-depth_left-eq0 : goal.returns-then-depth_left-eq0
returns-then-depth_left-eq0 c = too_deep c.args.depth_left c.args.bytes.now _ c.in-Some.ensures c.if-depth_left-eq0.true

pub returns-in-Some-after_byte : goal.returns-in-Some-after_byte
returns-in-Some-after_byte c = is_empty c.args.depth_left c.args.bytes.now _ c.in-Some.ensures c.if-depth_left-eq0.false _ (rw c.skip.ensures at c.in-Some-after_byte.ensures)

pub returns : goal.returns
returns c = is_filled c.args.depth_left c.args.bytes.now _ c.in-Some.ensures c.if-depth_left-eq0.false (rw c.skip.ensures at c.in_default-after_byte.ensures)
