use Rattle.std.proofs.lemmas.Result.{err_from_is_err_and}
use Rattle.reports.specs.Summaries.{summary_text}
use Rattle.mapchain_engine.proofs.Sent.{cut}
use Rattle.mapchain_cli.proofs.file_running.send_summary.Goals as goal

pub returns-in_err-sent : goal.returns-in_err-sent
returns-in_err-sent g c =
    let text = summary_text c.args.summary.now in
    let p = err_from_is_err_and c.from_residual.result c.from_residual.ensures.1 in
    rw (p.1, p.2) (cut c.args.out.now c.flush_after.new.sink text _ (c.in_err-sent.ensures c.args.out.now 0 text c.summary_text-written.ensures))

pub returns : goal.returns
returns g c = c.in_ok-sent.ensures c.args.out.now 0 (summary_text c.args.summary.now) c.summary_text-written.ensures
