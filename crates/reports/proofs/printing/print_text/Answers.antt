use Rattle.reports.proofs.Reported.{reported}
use Rattle.reports.proofs.printing.print_text.Goals as goal

pub returns : goal.returns
returns g c =
    let text = c.args.text.now in
    reported c.args.err.now c.flush_after.new.sink text c.flush_after.result (c.flush_after.ensures c.args.err.now 0 text c.put-written.ensures.wrote)
