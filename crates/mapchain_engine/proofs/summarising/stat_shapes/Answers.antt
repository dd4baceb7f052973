use Rattle.std.proofs.Common.{ap}
use Rattle.std.proofs.lemmas.Result.{err_from_is_err_and}
use Rattle.topojson_decoder.specs.Kept.{parts_contents}
use Rattle.topojson_decoder.specs.declared.keeping.Keeping.TheVariants.{Shapes}
use Rattle.reports.specs.Summaries.{summary_of}
use Rattle.mapchain_engine.proofs.FilesDecided.{summary_decides, summary_fails}
use Rattle.mapchain_engine.proofs.summarising.stat_shapes.Goals as goal

pub returns-in_err-parts-clause-decided : goal.returns-in_err-parts-clause-decided
returns-in_err-parts-clause-decided g c bytes outcome left comes =
    let p = err_from_is_err_and c.from_residual.result c.from_residual.ensures.1 in
    rw (p.1, p.2) (summary_fails summary_of c.args.source.now c.read_kept.new.source bytes left outcome comes _ c.in_err-parts.ensures)

pub returns-clause-decided : goal.returns-clause-decided
returns-clause-decided g c bytes outcome left comes =
    let read = c.in_ok-parts.ensures in
    summary_decides summary_of c.args.source.now c.read_kept.new.source bytes left outcome comes read.contents read.counts _ read.read (c.in_ok-summary.ensures Shapes read.contents read.kept)

pub show-requires : goal.show-requires
show-requires g c =
    let read = c.in_ok-parts.ensures in
    rw (ap parts_contents read.kept) (c.shapes_stay_valid.ensures read.contents (c.topology_is_valid.ensures read.read.spells.value read.contents read.counts read.read.spells.stands))
