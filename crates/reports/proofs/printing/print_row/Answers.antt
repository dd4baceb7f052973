use Rattle.reports.specs.FaultLines.{row_line}
use Rattle.reports.specs.FaultRows.{row_of}
use Rattle.reports.proofs.Reported.{reported}
use Rattle.reports.proofs.printing.print_row.Goals as goal

pub returns-clause-reported : goal.returns-clause-reported
returns-clause-reported g c =
    let text = row_line (row_of c.args.row.now) in
    reported c.args.err.now c.flush_after.new.sink text c.flush_after.result (c.flush_after.ensures c.args.err.now 0 text c.write_row-written.ensures)
