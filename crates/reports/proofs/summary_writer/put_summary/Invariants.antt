use Rattle.std.proofs.Common.{drop, ◌++◌}
use Rattle.json_writer.proofs.Appending.{UpTo}
use Rattle.reports.specs.Summaries.{objects_text, summary_text, totals_text}
use Rattle.reports.proofs.summary_writer.put_summary.Given as goal

abbrev pub invariant-objects : goal.invariant-objects
invariant-objects g l = UpTo g.O.Out.text g.O.Out.good l.fn.out l.out (summary_text l.fn.summary) (objects_text (drop l.object-index l.objects) ++ totals_text l.fn.summary)
