use Rattle.std.proofs.Common.{ap, inr, ◌∙◌}
use Rattle.std.proofs.lemmas.Result.{err_from_is_err_and}
use Rattle.mapchain_cli.specs.Files.{done_with}
use Rattle.mapchain_cli.proofs.Cut.{summary_cut, summary_fault}
use Rattle.mapchain_cli.proofs.file_running.summarise.Goals as goal

pub returns-in_err-summary-clause-refused : goal.returns-in_err-summary-clause-refused
returns-in_err-summary-clause-refused g c =
    let p = err_from_is_err_and c.from_residual-in_err-summary.result c.from_residual-in_err-summary.ensures.1 in
    rw (p.1, p.2) (inr (record {
      source_old = c.in_ok-source.source;
      source_new = c.summary_of-summarised.new.source;
      opened = c.in_ok-source.ensures.opened;
      once = c.done_with.ensures.noted ∙ ap (done_with c.summary_of-summarised.new.source) c.in_ok-source.ensures.once;
      fault = summary_fault c.args.crossings c.args.out.now c.in_ok-source.source c.summary_of-summarised.new.source c.in_err-summary.field-0.0 c.in_err-summary.ensures.refused;
    }))

pub returns-in_err-send_summary-clause-refused : goal.returns-in_err-send_summary-clause-refused
returns-in_err-send_summary-clause-refused g c =
    let p = err_from_is_err_and c.from_residual-in_err-send_summary.result c.from_residual-in_err-send_summary.ensures.1 in
    rw (p.1, p.2) (inr (record {
      source_old = c.in_ok-source.source;
      source_new = c.summary_of-summarised.new.source;
      opened = c.in_ok-source.ensures.opened;
      once = c.done_with.ensures.noted ∙ ap (done_with c.summary_of-summarised.new.source) c.in_ok-source.ensures.once;
      fault = summary_cut c.args.crossings c.args.out.now c.send_summary.new.out c.in_ok-source.source c.summary_of-summarised.new.source c.in_ok-summary.summary c.in_err-send_summary.field-0.0
          c.in_ok-summary.ensures.reported c.in_err-send_summary.ensures;
    }))
