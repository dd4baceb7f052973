use Rattle.std.proofs.Common.{rules, sym}
use Rattle.reports.proofs.run_writer.write_run_report.Goals as goal

pub returns : goal.returns
returns g c =
    let stood = c.put_run.ensures.kept _ c.over-out.ensures.begins in
    let same = sym stood.same in
    let wrote = c.end.ensures _ stood in
    search rules
