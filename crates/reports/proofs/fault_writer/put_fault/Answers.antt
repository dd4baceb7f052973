use Rattle.std.proofs.Common.{append_assoc, refl, sym}
use Rattle.reports.proofs.Objects.{fault-text}
use Rattle.reports.proofs.fault_writer.put_fault.Goals as goal

pub returns-clause-text : goal.returns-clause-text
returns-clause-text g c =
    rw (sym c.of_run-row.ensures) (rw (fault-text _ _ _ _ _ _) (simp (append_assoc, c.put-3.ensures.text, c.put_optional_member-4.ensures.text, c.put_optional_member-3.ensures.text, c.put_optional_member-2.ensures.text, c.put_optional_member.ensures.text, c.put_string.ensures.text, c.put-2.ensures.text, c.put_optional_text.ensures.text, c.put.ensures.text) refl))
