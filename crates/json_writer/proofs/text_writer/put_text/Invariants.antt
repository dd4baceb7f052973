use Rattle.std.proofs.Common.{◌++◌, length}
use Rattle.std.specs.Prelude.{codes}
use Rattle.json_value.specs.Text.{escaped, quoted}
use Rattle.json_writer.proofs.Appending.{UpTo}
use Rattle.json_writer.proofs.text_writer.put_text.Given as goal

abbrev pub invariant-runs : goal.invariant-runs
invariant-runs g l = UpTo g.O.Out.text g.O.Out.good l.fn.out l.out (quoted l.text) (escaped l.rest ++ codes "\"")

abbrev pub decreases-runs : goal.decreases-runs
decreases-runs g l = length l.rest
