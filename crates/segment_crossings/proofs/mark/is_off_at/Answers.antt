use Rattle.std.proofs.Common.{sym, ◌∙◌}
use Rattle.segment_crossings.proofs.Marks.{off_at_never}
use Rattle.segment_crossings.proofs.mark.is_off_at.Goals as goal

pub returns-then-is_end : goal.returns-then-is_end
returns-then-is_end c = λ e t r. off_at_never _ _ t c.args.end (sym c.is_end.ensures ∙ c.if-is_end.true) (rw c.in-Some.is at r) (c.is_off.ensures e)
