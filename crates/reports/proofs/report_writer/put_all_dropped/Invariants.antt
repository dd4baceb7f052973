use Rattle.std.proofs.Common.{drop}
use Rattle.json_writer.proofs.Appending.{UpTo}
use Rattle.reports.specs.Reports.{all_dropped_text}
use Rattle.reports.proofs.report_writer.put_all_dropped.Given as goal

abbrev pub invariant-dropped : goal.invariant-dropped
invariant-dropped g l = UpTo g.O.Out.text g.O.Out.good l.fn.out l.out (all_dropped_text l.all) (all_dropped_text (drop l.dropped-index l.all))
