use Rattle.std.proofs.Common.{ap, inr, refl, ◌∙◌}
use Rattle.mapchain_cli.specs.Following.{unreported}
use Rattle.mapchain_cli.proofs.following.report_run.Goals as goal

pub returns : goal.returns
returns g c =
    let is = c.run_report-run.ensures in
    (c.run_report-run.result, is, inr (c.if-put_report.ensures.unwritten refl, c.print_unreported.ensures, c.unreported.ensures ∙ ap unreported is.status))
