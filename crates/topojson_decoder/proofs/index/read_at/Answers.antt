use Rattle.std.proofs.Common.{inl}
use Rattle.std.specs.Option.{option_copied}
use Rattle.std.proofs.lemmas.Result.{err_from_is_err_and}
use Rattle.topojson_decoder.specs.Kept.{kept_arc_list}
use Rattle.topojson_decoder.proofs.index.read_at.Goals as goal

pub returns : goal.returns
returns c =
    let found = c.in_ok-arcs.ensures (kept_arc_list c.args.start.keeping (option_copied c.args.transform)) c.args.start.counts c.kept_arcs_at-answer.new.counts c.kept_arcs_at-answer.ensures in
    inl (found.0, found.1, record { prefix = (_, found.1); read = found.2 })

pub returns-in_err-arcs : goal.returns-in_err-arcs
returns-in_err-arcs c =
    let p = err_from_is_err_and c.from_residual.result c.from_residual.ensures.1 in
    rw (p.1, p.2) (c.in_err-arcs.ensures (kept_arc_list c.args.start.keeping (option_copied c.args.transform)) c.args.start.counts c.kept_arcs_at-answer.new.counts c.kept_arcs_at-answer.ensures)
