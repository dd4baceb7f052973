use Rattle.std.proofs.lemmas.Result.{err_from_is_err_and}
use Rattle.topojson_decoder.specs.declared.keeping.Keeping.TheVariants.{Counted}
use Rattle.reports.specs.Summaries.{summary_of}
use Rattle.mapchain_engine.proofs.FilesDecided.{summary_decides, summary_fails}
use Rattle.mapchain_engine.proofs.summarising.stat.Goals as goal

pub returns-in_err-parts-clause-decided : goal.returns-in_err-parts-clause-decided
returns-in_err-parts-clause-decided g c bytes outcome left comes =
    let p = err_from_is_err_and c.from_residual.result c.from_residual.ensures.1 in
    rw (p.1, p.2) (summary_fails summary_of c.args.source.now c.read_kept.new.source bytes left outcome comes _ c.in_err-parts.ensures)

pub returns-clause-decided : goal.returns-clause-decided
returns-clause-decided g c bytes outcome left comes =
    let read = c.in_ok-parts.ensures in
    summary_decides summary_of c.args.source.now c.read_kept.new.source bytes left outcome comes read.contents read.counts _ read.read (c.in_ok-summary.ensures Counted read.contents read.kept)
