use Rattle.std.proofs.Common.{append_assoc, refl}
use Rattle.reports.proofs.fault_line.put_row.Goals as goal

pub returns-clause-text : goal.returns-clause-text
returns-clause-text g c =
    simp (append_assoc, c.put-4.ensures.text, c.put_number_text-4.ensures.text, c.put_number_text-3.ensures.text, c.put_number_text-2.ensures.text, c.put-3.ensures.text, c.as_bytes.ensures.value, c.put-2.ensures.text, c.put_code_text.ensures.text, c.put_number_text.ensures.text, c.put.ensures.text) refl
