use Rattle.std.proofs.Common.{append_assoc, refl}
use Rattle.reports.proofs.Objects.{report-text}
use Rattle.reports.proofs.report_members.put_report.Goals as goal

pub returns-clause-text : goal.returns-clause-text
returns-clause-text g c =
    let early = simp (append_assoc, c.as_slice.ensures, c.put.ensures.text, c.put_number_member-3.ensures.text, c.put_number_member-2.ensures.text, c.put_number_member.ensures.text) at c.put_array.ensures.text in
    rw (report-text _ _ _ _ _ _ _ _ _) (simp (append_assoc, c.put-3.ensures.text, c.put_chosen.ensures.text, c.put-2.ensures.text, c.put_number_member-7.ensures.text, c.put_number_member-6.ensures.text, c.put_number_member-5.ensures.text, c.put_number_member-4.ensures.text, early) refl)
