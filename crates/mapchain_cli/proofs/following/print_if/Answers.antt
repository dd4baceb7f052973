use Rattle.reports.proofs.Reported.{reported}
use Rattle.explanations.specs.Brief.{brief}
use Rattle.mapchain_cli.proofs.following.print_if.Goals as goal

pub returns-then-is_asked : goal.returns-then-is_asked
returns-then-is_asked g c =
    let text = brief c.args.text.now in
    rw c.if-is_asked.true (reported c.args.err.now c.flush_after.new.sink text c.flush_after.result (c.flush_after.ensures c.args.err.now 0 text c.put_brief-written.ensures))
