use Rattle.std.proofs.Common.{append_assoc, refl}
use Rattle.reports.proofs.Objects.{run-text}
use Rattle.reports.proofs.run_writer.put_run.Goals as goal

pub returns-clause-text : goal.returns-clause-text
returns-clause-text g c =
    rw (run-text _ _ _ _) (simp (append_assoc, c.put-4.ensures.text, c.put_lines.ensures.text, c.put-3.ensures.text, c.put_optional_report.ensures.text, c.put-2.ensures.text, c.put_optional_fault.ensures.text, c.put.ensures.text, c.put_number_member.ensures.text) refl)
