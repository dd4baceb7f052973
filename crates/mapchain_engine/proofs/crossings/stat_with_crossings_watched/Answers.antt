use Rattle.std.proofs.lemmas.Result.{err_from_is_err_and}
use Rattle.reports.specs.Summaries.{summary_of, with_crossings}
use Rattle.build_meaning.specs.ArcPositions.{crossings_of}
use Rattle.mapchain_engine.proofs.FilesDecided.{summary_decides, summary_fails}
use Rattle.mapchain_engine.proofs.crossings.stat_with_crossings_watched.Goals as goal

pub returns-in_err-topology-clause-decided : goal.returns-in_err-topology-clause-decided
returns-in_err-topology-clause-decided g c bytes outcome left comes =
    let p = err_from_is_err_and c.from_residual.result c.from_residual.ensures.1 in
    rw (p.1, p.2) (summary_fails (λ t. with_crossings (crossings_of t) (summary_of t)) c.args.source.now c.read_watched.new.source bytes left outcome comes _ c.in_err-topology.ensures)

pub returns-clause-decided : goal.returns-clause-decided
returns-clause-decided g c bytes outcome left comes =
    summary_decides (λ t. with_crossings (crossings_of t) (summary_of t)) c.args.source.now c.read_watched.new.source bytes left outcome comes _ _ _ c.in_ok-topology.ensures c.in_ok-summary.ensures
