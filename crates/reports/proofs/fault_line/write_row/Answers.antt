use Rattle.std.proofs.Common.{rules, sym}
use Rattle.reports.proofs.fault_line.write_row.Goals as goal

pub returns : goal.returns
returns g c =
    let stood = c.put_row.ensures.kept _ c.over-out.ensures.begins in
    let same = sym stood.same in
    let wrote = c.end.ensures _ stood in
    search rules
