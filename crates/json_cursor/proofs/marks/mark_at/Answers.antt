use Rattle.std.proofs.Common.{sym, ◌∙◌}
use Rattle.json_cursor.proofs.Lists.{comma_first, other_after}
use Rattle.json_cursor.proofs.Openings.{first_byte}
use Rattle.json_cursor.proofs.marks.mark_at.Goals as goal

pub returns-in-Some : goal.returns-in-Some
returns-in-Some c = comma_first c.args.bytes.now _ (first_byte 44 c.args.bytes.now _ c.in-Some.ensures)

pub returns : goal.returns
returns c = other_after c.args.bytes.now _ _ (sym c.skip-following.ensures ∙ c.in-Some-first_at.ensures) c.if-first-eq93.false c.if-first-eq44.false
