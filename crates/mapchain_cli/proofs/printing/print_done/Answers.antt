use Rattle.reports.proofs.Reported.{reported}
use Rattle.reports.specs.Reports.{report_text}
use Rattle.mapchain_cli.proofs.printing.print_done.Goals as goal

pub returns-in-Some : goal.returns-in-Some
returns-in-Some g c =
    let text = report_text c.in-Some.report in
    rw c.in-Some.is (reported c.args.err.now c.flush_after.new.sink text c.flush_after.result (c.flush_after.ensures c.args.err.now 0 text c.report_text-written.ensures))
