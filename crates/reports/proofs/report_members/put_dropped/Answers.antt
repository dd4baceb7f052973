use Rattle.std.proofs.Common.{append_assoc, refl}
use Rattle.reports.proofs.Objects.{dropped-text}
use Rattle.reports.proofs.report_members.put_dropped.Goals as goal

pub returns-clause-text : goal.returns-clause-text
returns-clause-text g c =
    rw (dropped-text _ _ _ _) (simp (append_assoc, c.put-2.ensures.text, c.cause_ending.ensures, c.put_path_array.ensures.text, c.put.ensures.text, c.put_number_member-2.ensures.text, c.put_number_member.ensures.text) refl)
