use Rattle.std.proofs.Common.{drop}
use Rattle.json_writer.proofs.Appending.{UpTo}
use Rattle.reports.specs.Reports.{path_rest}
use Rattle.reports.proofs.path_writer.put_rest.Given as goal

abbrev pub invariant-numbers : goal.invariant-numbers
invariant-numbers g l = UpTo g.O.Out.text g.O.Out.good l.fn.out l.out (path_rest l.between l.fn.numbers) (path_rest l.between (drop l.number-index l.numbers))
