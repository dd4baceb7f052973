use Rattle.json_writer.proofs.Appending.{as_part}
use Rattle.json_value.proofs.Texts.{text-number}
use Rattle.reports.proofs.report_members.put_chosen.Goals as goal

pub returns-clause-text : goal.returns-clause-text
returns-clause-text g c =
    let number = rw c.as_bytes.ensures.value at c.put.ensures.text in
    rw c.in-Some.is (as_part _ (text-number _) (rw c.format.ensures.text at number))
